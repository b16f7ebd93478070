-- Document 01, 'Rectangles' (`Table::population` of table.rs; Crow, 'Summed-area tables', 1984).
use Rattle.std.specs.Prelude.{List, Bool, true, not, cond, ◌&&◌, ℕ, suc, min, max, leb, ltb, Float}
use Rattle.std.specs.Float.{nan, binary64}
use Rattle.std.specs.Float.Ieee.{add, sub}
use Rattle.refusal.specs.Refusal.{Outcome, first, passed, outcome, not_its_makers, wrong_table_length, row_off_grid, column_off_grid}
use Rattle.grid.specs.declared.Grid.{Grid}
use Rattle.grid.specs.Grid.{valid_grid}
use Rattle.layout.specs.Place.{corner, right_table}
use Rattle.layout.specs.Rows.{row_corner, right_rows}
use Rattle.table.specs.declared.RowBand.{RowBand}
use Rattle.table.specs.declared.ColSpan.{ColSpan}
use Rattle.table.specs.declared.ColSpan.TheVariants.{Through, FullTurn}

-- a band is given by any two of its rows: the north one is the first
abbrev pub row_band : ℕ → ℕ → RowBand
row_band a b = record { north = record { 0 = min a b }; south = record { 0 = max a b } }

-- Crow: the rows north to south with both in, the columns from first up to last, by four corners in the Rust's order. `cell` is what stands
-- in a table row and a table column
unfoldable pub box_sum : (ℕ → ℕ → Float) → ℕ → ℕ → ℕ → ℕ → Float
box_sum cell north south first last =
    add binary64 (sub binary64 (sub binary64 (cell (suc south) last) (cell north last)) (cell (suc south) first)) (cell north first)

-- a full turn is one rectangle; west past east is two pieces at the seam
unfoldable pub rectangle_sum : ℕ → (ℕ → ℕ → Float) → ℕ → ℕ → ColSpan → Float
unfolding box_sum
rectangle_sum width cell north south FullTurn = box_sum cell north south 0 width
rectangle_sum width cell north south (Through west east) =
    cond (leb west.0 east.0) (box_sum cell north south west.0 (suc east.0))
    (add binary64 (box_sum cell north south west.0 width) (box_sum cell north south 0 (suc east.0)))

-- both columns are the grid's
abbrev pub span_on_grid : ℕ → ColSpan → Bool
span_on_grid width FullTurn = true
span_on_grid width (Through west east) = ltb west.0 width && ltb east.0 width

-- the rectangle's cells are in the table: as many cells as a table has, a band in order, rows and columns of the grid
unfoldable pub rectangle_held : Grid → List Float → RowBand → ColSpan → Bool
rectangle_held g cells rows cols =
    right_table g cells && (leb rows.north.0 rows.south.0 && ltb rows.south.0 g.height) && span_on_grid g.width cols

-- the sum where they are, else the NaN: for callers that have checked, as a circle's rows
unfoldable pub held_sum : Grid → List Float → RowBand → ColSpan → Float
held_sum g cells rows cols =
    cond (rectangle_held g cells rows cols) (rectangle_sum g.width (corner g.width cells) rows.north.0 rows.south.0 cols) nan

-- 22 (a grid, or a band whose north is past its south), 11 (`right`: the table's length is), 15, 16
unfoldable pub rectangle_refusal : Grid → Bool → RowBand → ColSpan → ℕ
rectangle_refusal g right rows cols =
    first (not (valid_grid g && leb rows.north.0 rows.south.0)) not_its_makers
    (first (not right) wrong_table_length
    (first (leb g.height rows.south.0) row_off_grid
    (first (not (span_on_grid g.width cols)) column_off_grid passed)))

-- `population`, of a table in any layout
abbrev pub rectangle_by : Grid → Bool → (ℕ → ℕ → Float) → RowBand → ColSpan → Outcome Float
rectangle_by g right cell rows cols = outcome (rectangle_refusal g right rows cols) (rectangle_sum g.width cell rows.north.0 rows.south.0 cols)

-- in blocks (document 02, C-16)
unfoldable pub rectangle_population : Grid → List Float → RowBand → ColSpan → Outcome Float
rectangle_population g cells rows cols = rectangle_by g (right_table g cells) (corner g.width cells) rows cols

-- in row layout, as document 01 has it
unfoldable pub row_rectangle_population : Grid → List Float → RowBand → ColSpan → Outcome Float
row_rectangle_population g cells rows cols = rectangle_by g (right_rows g cells) (row_corner g.width cells) rows cols
