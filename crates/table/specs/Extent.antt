-- `whole` and `covering` of table.rs: the rows and columns of a table, and of a window in degrees.
use Rattle.std.specs.Prelude.{not, cond, ◌-◌, Float}
use Rattle.std.specs.Float.{binary64}
use Rattle.std.specs.Float.Ieee.{sub, le}
use Rattle.refusal.specs.Refusal.{Outcome, answered, first, passed, outcome, and_then, not_its_makers}
use Rattle.geodesy.specs.declared.LatLon.{LatLon}
use Rattle.float.specs.Constants.{f64p360}
use Rattle.grid.specs.declared.Grid.{Grid}
use Rattle.grid.specs.Grid.{valid_grid, tolerance}
use Rattle.grid.specs.Lookup.{cell_containing}
use Rattle.table.specs.Rectangle.{row_band}
use Rattle.table.specs.declared.RowBand.{RowBand}
use Rattle.table.specs.declared.ColSpan.{ColSpan}
use Rattle.table.specs.declared.ColSpan.TheVariants.{Through, FullTurn}
use Rattle.table.specs.declared.Window.{Window}

-- every row and every column
unfoldable pub whole_extent : Grid → Outcome (RowBand × ColSpan)
whole_extent g = outcome (first (not (valid_grid g)) not_its_makers passed) (row_band 0 (g.height - 1), FullTurn)

abbrev pub point_at : Float → Float → LatLon
point_at lat lon = record { lat = lat; lon = lon }

-- beside the rows of a window, its columns: a width of 360 less the tolerance is a full turn; else the columns of its edges
abbrev pub covering_columns : Grid → Window → RowBand → Outcome (RowBand × ColSpan)
covering_columns g w rows =
    cond (le (sub binary64 f64p360 tolerance) (sub binary64 w.east w.west)) (answered (rows, FullTurn))
    (and_then (cell_containing g (point_at w.north w.west)) (λ a.
    and_then (cell_containing g (point_at w.north w.east)) (λ b.
    answered (rows, Through (record { 0 = a.1 }) (record { 0 = b.1 })))))

-- the rows of the window's edges at the grid's own longitude, then its columns
unfoldable pub covering : Grid → Window → Outcome (RowBand × ColSpan)
covering g w =
    and_then (cell_containing g (point_at w.north g.lon)) (λ n.
    and_then (cell_containing g (point_at w.south g.lon)) (λ s.
    covering_columns g w (row_band n.0 s.0)))
