-- Document 01, 'Building': the row handed on (`decimated` of table.rs).
use Rattle.std.specs.Prelude.{List, cond, ℕ, ◌*◌, length, take, get_or, eqb, Float}
use Rattle.std.specs.Float.{nan}
use Rattle.layout.specs.Entries.{entries}

-- every factor-th entry of acc, for each cell of the coarse row
abbrev pub sampled : List Float → ℕ → List Float → List Float
sampled acc factor coarse = entries (length coarse) (λ j. get_or acc (j * factor) nan)

-- the coarse row once it is filled; at factor 1 it is not written
unfoldable pub coarse_filled : List Float → List Float → ℕ → List Float
coarse_filled acc coarse factor = cond (eqb factor 1) coarse (sampled acc factor coarse)

-- the row handed on, n cells: of the accumulator itself at factor 1, else of the coarse row
unfoldable pub handed_on : List Float → List Float → ℕ → ℕ → List Float
handed_on acc coarse factor n = take n (cond (eqb factor 1) acc coarse)
