-- Document 02, C-16, worked. Assumes nothing.
use mathlib.Core.Path.{◌≡◌, refl}
use mathlib.Core.List.{List, [], ◌∷◌, map}
use lib.ListN.{get_or, replicate}
use lib.Ieee.{Float, nan, of_int}
use Rattle.float.specs.Float.{f64zero, f64one, f64of}
use Rattle.layout.specs.Entries.{entries}
use Rattle.layout.specs.Place.{cell_at, payload_length, corner, in_blocks}
use Rattle.layout.specs.Rows.{row_length, row_corner}
use Rattle.layout.specs.Written.{cleared_table, laid_row}
use Rattle.layout.specs.Map.{to_blocks, to_rows}

-- 9 columns: two blocks to a row of blocks. The last of a run and of a block, the next block, the run below, the next row of blocks
places : cell_at 9 0 7 ∷ cell_at 9 7 7 ∷ cell_at 9 0 8 ∷ cell_at 9 1 8 ∷ cell_at 9 8 0 ∷ cell_at 9 8 9 ∷ [] ≡ 7 ∷ 63 ∷ 64 ∷ 72 ∷ 128 ∷ 193 ∷ []
unfolding cell_at
places = refl

-- 7 and 8 columns and rows; 8,192 places and a block more, as 27 has it
lengths : payload_length 7 7 ∷ payload_length 8 7 ∷ payload_length 7 8 ∷ payload_length 8 8 ∷ payload_length 1023 1 ∷ payload_length 1024 1 ∷ payload_length 7 1023
    ∷ payload_length 7 1024 ∷ []
    ≡ 64 ∷ 128 ∷ 128 ∷ 256 ∷ 8192 ∷ 8256 ∷ 8192 ∷ 8256 ∷ []
unfolding payload_length
lengths = refl

-- the cells of a table of 8 columns and one row: of the second block two are the table's, in its first column. Then two past its edge, in the row of
-- its last cell and in the row below it
abbrev looked : List Float → List Float
looked cells = map (λ p. get_or cells p nan) (0 ∷ 7 ∷ 64 ∷ 8 ∷ 15 ∷ 72 ∷ 73 ∷ 80 ∷ [])

abbrev ones : List Float
ones = replicate 128 f64one

-- a start leaves table row 1 as it was
started : looked (cleared_table 8 1 ones) ≡ f64zero ∷ f64zero ∷ f64zero ∷ f64one ∷ f64one ∷ f64one ∷ f64zero ∷ f64zero ∷ []
unfolding cleared_table in_blocks corner
started = refl

-- a row handed on leaves all but table row 1
handed : looked (laid_row 8 ones 1 (map f64of (0 ∷ 1 ∷ 2 ∷ 3 ∷ 4 ∷ 5 ∷ 6 ∷ 7 ∷ 8 ∷ [])))
    ≡ f64one ∷ f64one ∷ f64one ∷ f64of 0 ∷ f64of 7 ∷ f64of 8 ∷ f64one ∷ f64one ∷ []
unfolding laid_row in_blocks corner of_int
handed = refl

-- the map, and back
rows : List Float
rows = map f64of (0 ∷ 1 ∷ 2 ∷ 3 ∷ 4 ∷ 5 ∷ 6 ∷ 7 ∷ 8 ∷ 10 ∷ 11 ∷ 12 ∷ 13 ∷ 14 ∷ 15 ∷ 16 ∷ 17 ∷ 18 ∷ [])

mapped : looked (to_blocks 8 1 rows) ≡ f64of 0 ∷ f64of 7 ∷ f64of 8 ∷ f64of 10 ∷ f64of 17 ∷ f64of 18 ∷ f64zero ∷ f64zero ∷ []
unfolding rows to_blocks payload_length in_blocks row_corner of_int
mapped = refl

back : to_rows 8 1 (to_blocks 8 1 rows) ≡ rows
unfolding rows to_rows row_length corner to_blocks payload_length in_blocks row_corner entries of_int
back = refl
