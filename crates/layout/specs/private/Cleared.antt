-- What a start does to one table row.
use Rattle.std.specs.Prelude.{cond, ◌&&◌, List, ℕ, suc, eqb, leb, length, Float}
use Rattle.float.specs.Float.{f64zero}
use Rattle.layout.specs.Place.{corner, in_blocks}

-- the column from which it is cleared: past the last of a row that is left, else the first
abbrev pub first_cleared : ℕ → ℕ → ℕ → ℕ
first_cleared width height r = cond (leb 1 r && leb r height) (suc width) 0

-- +0.0 in table row r from a column on, to the end of its last block
unfoldable pub cleared_from : ℕ → List Float → ℕ → ℕ → List Float
cleared_from width cells r from = in_blocks width (length cells) (λ s c. cond (eqb s r && leb from c) f64zero (corner width cells s c))
