-- Worked examples, which antt works out from the definitions: document 01's bench cases. Assumes nothing.
use mathlib.Core.Path.{◌≡◌, refl}
use mathlib.Core.Bool.{true}
use lib.Ieee.{Float, inf, binary64, add, neg, lt, le, of_bits}
use Rattle.refusal.specs.Refusal.{answered, refused, radius_not_finite}
use Rattle.float.specs.Float.{f64zero, larger}
use Rattle.radius.specs.Radius.{radius_refusal, radius_new, valid_radius, widened, widened_by}

-- 5.0
abbrev five : Float
five = of_bits binary64 0x4014_0000_0000_0000

-- 7.0
abbrev seven : Float
seven = of_bits binary64 0x401c_0000_0000_0000

-- radius 5 widened by −7 is 5
pub never_narrower : widened_by (record { 0 = five }) (neg seven) ≡ answered five
unfolding widened_by valid_radius radius_refusal widened larger add neg lt le of_bits
never_narrower = refl

-- −0.0 widened by 0.0 is +0.0
pub zero_widened : widened_by (record { 0 = neg f64zero }) f64zero ≡ answered f64zero
unfolding widened_by valid_radius radius_refusal widened larger add neg lt le of_bits
zero_widened = refl

-- −infinity is not finite before it is below 0
pub minus_infinity : radius_new (inf true) ≡ refused radius_not_finite
unfolding radius_new radius_refusal
minus_infinity = refl
