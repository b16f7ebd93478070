-- The cells of two table rows, by where their first cells stand.
use Rattle.std.specs.Prelude.{◌≡◌, List, ℕ, zero, suc, ◌+◌, get_or, Float}
use Rattle.std.specs.Float.{nan}
use Rattle.layout.specs.Place.{cell_at, run_at}
use Rattle.table.specs.declared.Lines.{Lines}
use Rattle.table.specs.declared.RowBand.{RowBand}

-- row 0 is the upper one, and any other the lower one
abbrev pub line_cells : Lines → ℕ → ℕ → Float
line_cells lines zero c = get_or lines.cells.now (lines.top + run_at c) nan
line_cells lines (suc r) c = get_or lines.cells.now (lines.bottom + run_at c) nan

-- they are those of a band over so many columns, in these cells
pub record LinesOf (width : ℕ) (rows : RowBand) (table : List Float) (lines : Lines) : Type 0 where
  pub cells : lines.cells.now ≡ table
  pub top : lines.top ≡ cell_at width rows.north.0 0
  pub bottom : lines.bottom ≡ cell_at width (suc rows.south.0) 0
