-- Document 02, C-16: a table's cells stand in blocks of 8 by 8, blocks in row order and cells in row order inside each.
use Rattle.std.specs.Prelude.{Bool, ◌&&◌, List, ℕ, suc, ◌+◌, ◌*◌, ◌/◌, ◌%◌, eqb, leb, length, get_or, Float}
use Rattle.std.specs.Float.{nan}
use Rattle.grid.specs.declared.Grid.{Grid}
use Rattle.layout.specs.Entries.{entries}

-- a table has a row and a column more than its grid: the blocks in a line that hold n + 1 cells are ⌈(n + 1) / 8⌉
unfoldable pub blocks_over : ℕ → ℕ
blocks_over n = (suc n + 7) / 8

-- the place of the cell in table row r and table column c, over a grid of so many columns
unfoldable pub cell_at : ℕ → ℕ → ℕ → ℕ
unfolding blocks_over
cell_at width r c = (r / 8 * blocks_over width + c / 8) * 64 + r % 8 * 8 + c % 8

-- how far it stands past the first cell of its table row, which is in runs of 8, 64 places apart
unfoldable pub run_at : ℕ → ℕ
run_at c = c / 8 * 64 + c % 8

-- 64 times the number of blocks, over a grid of so many columns and rows
unfoldable pub payload_length : ℕ → ℕ → ℕ
unfolding blocks_over
payload_length width height = 64 * (blocks_over width * blocks_over height)

-- the cell in table row r and table column c
unfoldable pub corner : ℕ → List Float → ℕ → ℕ → Float
unfolding cell_at
corner width cells r c = get_or cells (cell_at width r c) nan

-- 11: the cells are as many as the payload length of a table over the grid
unfoldable pub right_table : Grid → List Float → Bool
unfolding payload_length
right_table g cells = eqb (length cells) (payload_length g.width g.height)

-- ---- every place is a cell of the table, or past the edge

-- the table row and the table column of a place
unfoldable pub row_of : ℕ → ℕ → ℕ
unfolding blocks_over
row_of width p = p / 64 / blocks_over width * 8 + p % 64 / 8

unfoldable pub column_of : ℕ → ℕ → ℕ
unfolding blocks_over
column_of width p = p / 64 % blocks_over width * 8 + p % 8

-- a cell of the table; else it is past the edge, in a column past the width or in a row past the height
abbrev pub is_cell : ℕ → ℕ → ℕ → ℕ → Bool
is_cell width height r c = leb r height && leb c width

-- n places, each with what `cell` gives for its table row and table column
unfoldable pub in_blocks : ℕ → ℕ → (ℕ → ℕ → Float) → List Float
unfolding row_of column_of entries
in_blocks width n cell = entries n (λ p. cell (row_of width p) (column_of width p))
