-- Worked examples, which antt works out from the definitions: where the stand-ins round. Assumes nothing.
use mathlib.Core.Path.{◌≡◌, refl}
use lib.Ieee.{binary64, sub, mul, div, of_int, of_bits}
use Rattle.float.specs.Constants.{f64zero, f64p90}
use Rattle.stand_ins.specs.StandIns.{sine_term, sin_of, cosine_term, cos_of, to_radians}

-- the sine of 90° is 0.9999999999999999, and its cosine +0.0
pub sine_90 : sin_of (to_radians f64p90) ≡ of_bits binary64 0x3fef_ffff_ffff_ffff
unfolding sin_of sine_term to_radians sub mul div of_int of_bits
sine_90 = refl

pub cosine_90 : cos_of (to_radians f64p90) ≡ f64zero
unfolding cos_of cosine_term to_radians sub mul div of_int of_bits
cosine_90 = refl
