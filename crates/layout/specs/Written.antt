-- Document 02, C-16: what is written to a table, by a start and by a row handed on.
use Rattle.std.specs.Prelude.{cond, ◌&&◌, List, ℕ, eqb, leb, length, get_or, Float}
use Rattle.std.specs.Float.{nan}
use Rattle.float.specs.Float.{f64zero}
use Rattle.layout.specs.Place.{corner, is_cell, in_blocks}

-- a start: +0.0 in table row 0 and past the edge; every other place is left
unfoldable pub cleared_table : ℕ → ℕ → List Float → List Float
cleared_table width height cells =
    in_blocks width (length cells) (λ r c. cond (leb 1 r && is_cell width height r c) (corner width cells r c) f64zero)

-- a row handed on, over the width + 1 cells of table row `at`; every other place is left
unfoldable pub laid_row : ℕ → List Float → ℕ → List Float → List Float
laid_row width cells at row = in_blocks width (length cells) (λ r c. cond (eqb r at && leb c width) (get_or row c nan) (corner width cells r c))
