-- How a row is written: from the first cell of its table row on, in runs of 8.
use Rattle.std.specs.Prelude.{List, ℕ, zero, suc, ◌+◌, set, get_or, Float}
use Rattle.std.specs.Float.{nan}
use Rattle.layout.specs.Place.{run_at}

-- n cells of a row from column c on, each at its place past a start; nothing else changes
abbrev pub laid_runs : ℕ → List Float → List Float → ℕ → ℕ → List Float
laid_runs start cells row c zero = cells
laid_runs start cells row c (suc n) = set (laid_runs start cells row c n) (start + run_at (c + n)) (get_or row (c + n) nan)

-- n cells of a row from column c on, one behind another from a place on
abbrev pub stored : List Float → ℕ → List Float → ℕ → ℕ → List Float
stored cells at row c zero = cells
stored cells at row c (suc n) = set (stored cells at row c n) (at + n) (get_or row (c + n) nan)
