-- A float as a whole number of units of 2 ^ -s: every finite value of a format is one of 2 ^ -low, its smallest value (IEEE 754,
-- 3.3); document 00, demand 3, has s = 0.
use Rattle.std.specs.Prelude.{ℕ, ◌*◌, ◌/◌, ◌^◌, Float}
use Rattle.std.specs.Float.{nan, inf, fin}
use Rattle.std.specs.Float.Ieee.{up, down}

-- how many units of 2 ^ -s a finite x is, its sign aside, cut to a whole number
unfoldable pub unit_count : ℕ → Float → ℕ
unit_count s nan = 0
unit_count s (inf sign) = 0
unit_count s (fin sign m e) = m * up e * 2 ^ s / down e
