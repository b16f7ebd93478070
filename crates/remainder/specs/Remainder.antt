-- The remainder that is never below 0 (`rem_euclid` of Rust's f64).
use Rattle.std.specs.Prelude.{cond, Float}
use Rattle.std.specs.Float.{binary64}
use Rattle.std.specs.Float.Ieee.{add, rem, lt}
use Rattle.float.specs.Float.{f64zero, magnitude}

-- document 01, 'Grid': r = value % m, plus |m| if r < 0
unfoldable pub rem_euclid : Float → Float → Float
rem_euclid value m =
    let r = rem binary64 value m in
    cond (lt r f64zero) (add binary64 r (magnitude m)) r
