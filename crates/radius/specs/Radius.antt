-- A circle's radius in km: `RadiusKm` of geodesy.rs, document 01's refusals 18, 19 and 22.
use Rattle.std.specs.Prelude.{ℕ, Bool, not, cond, eqb, Float, Result, Ok, Err}
use Rattle.std.specs.Float.{binary64}
use Rattle.std.specs.Float.Ieee.{add, lt}
use Rattle.std.specs.Float.Ieee.Scale.{finite}
use Rattle.refusal.specs.declared.Refusal.{Refusal}
use Rattle.refusal.specs.Refusal.{Outcome, answered, refused, first, passed, outcome, number_of, radius_not_finite, radius_below_zero, not_its_makers}
use Rattle.float.specs.Float.{f64zero, f64max, larger}
use Rattle.radius.specs.declared.RadiusKm.{RadiusKm}

-- what a radius call's answer is in document 01's terms: the km
abbrev pub radius_outcome : Result RadiusKm Refusal → Outcome Float
radius_outcome (Ok r) = answered r.0
radius_outcome (Err n) = refused (number_of n)

-- the checks of `RadiusKm::new`
unfoldable pub radius_refusal : Float → ℕ
radius_refusal km = first (not (finite km)) radius_not_finite (first (lt km f64zero) radius_below_zero passed)

-- `RadiusKm::new`
unfoldable pub radius_new : Float → Outcome Float
radius_new km = outcome (radius_refusal km) km

-- 22: a radius that its maker couldn't give fails 18 or 19
unfoldable pub valid_radius : RadiusKm → Bool
valid_radius r = eqb (radius_refusal r.0) 0

-- km + more, but no less than km; f64::MAX where the sum is not finite
unfoldable pub widened : Float → Float → Float
widened km more =
    let w = add binary64 km more in
    cond (finite w) (larger w km) f64max

-- `RadiusKm::widened_by`
unfoldable pub widened_by : RadiusKm → Float → Outcome Float
widened_by r more = outcome (first (not (valid_radius r)) not_its_makers passed) (widened r.0 more)
