-- What the sum of a rectangle goes by: its cells are in the table.
use Rattle.std.specs.Prelude.{◌≡◌, true, ℕ, ◌≤◌, ◌<◌}
use Rattle.grid.specs.declared.Grid.{Grid}
use Rattle.layout.specs.Place.{payload_length}
use Rattle.table.specs.Rectangle.{span_on_grid}
use Rattle.table.specs.declared.ColSpan.{ColSpan}
use Rattle.table.specs.declared.RowBand.{RowBand}

-- so many cells are a table's over the grid, and the rows and columns are the grid's
pub record Held (g : Grid) (cells : ℕ) (rows : RowBand) (cols : ColSpan) : Type 0 where
  pub ordered : rows.north.0 ≤ rows.south.0
  pub right : cells ≡ payload_length g.width g.height
  pub south : rows.south.0 < g.height
  pub columns : span_on_grid g.width cols ≡ true
