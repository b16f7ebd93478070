-- `raster::sanitise_row` meets its contract. The invariant: the cells up to here are done, and what becomes of the rest makes up
-- what becomes of the whole row; and so of the tallies.
-- Assumes nothing.
use Rattle.std.proofs.Common.{◌≡◌, map, drop}
use Rattle.raster.specs.Raster.{sanitised, row_tallies, cells_of}
use Rattle.raster.proofs.Tallies.{tallies_from}
use Rattle.raster.proofs.Turn.{map_from}
use Rattle.raster.proofs.sanitise_row.Given as goal

abbrev pub invariant-loop-cell : goal.invariant-loop-cell
invariant-loop-cell l = record {
  row : map_from (sanitised l.nodata) l.cell-items l.cell-index ≡ map (sanitised l.nodata) l.initial.cell-items;
  tallies : tallies_from l.nodata l.tallies (drop l.cell-index l.cell-items) ≡ row_tallies l.nodata l.initial.cell-items;
  cells : cells_of l.tallies ≡ l.cell-index;
}
