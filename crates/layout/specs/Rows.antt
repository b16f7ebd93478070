-- Document 01, 'Records': the row layout, (width + 1) × (height + 1) cells, row-major.
use Rattle.std.specs.Prelude.{Bool, List, ℕ, suc, ◌+◌, ◌*◌, eqb, length, get_or, Float}
use Rattle.std.specs.Float.{nan}
use Rattle.grid.specs.declared.Grid.{Grid}

-- the place of the cell in table row r and table column c, over a grid of so many columns
unfoldable pub row_cell_at : ℕ → ℕ → ℕ → ℕ
row_cell_at width r c = r * suc width + c

-- how many cells a table over a grid of so many columns and rows has
unfoldable pub row_length : ℕ → ℕ → ℕ
row_length width height = suc height * suc width

-- the cell in table row r and table column c
unfoldable pub row_corner : ℕ → List Float → ℕ → ℕ → Float
unfolding row_cell_at
row_corner width cells r c = get_or cells (row_cell_at width r c) nan

-- 11: the cells are as many as a table over the grid has
unfoldable pub right_rows : Grid → List Float → Bool
unfolding row_length
right_rows g cells = eqb (length cells) (row_length g.width g.height)
