-- `sweep::sweep_row` meets its contract. The invariant: what is done, then what becomes of the rest, is what becomes of the whole.
-- Assumes nothing.
use Rattle.std.proofs.Common.{◌≡◌, ◌+◌, drop}
use Rattle.digest.specs.Digest.{digest_of}
use Rattle.raster.specs.Raster.{sanitised, sanitised_row, row_tallies, cells_of}
use Rattle.raster.proofs.Tallies.{tallies_from}
use Rattle.raster.proofs.Turn.{map_from}
use Rattle.sweep.specs.Sweep.{acc_after, corr_after}
use Rattle.sweep.proofs.Sweeps.{from_acc, from_corr}
use Rattle.sweep.proofs.sweep_row.Given as goal

abbrev pub invariant-loop-i : goal.invariant-loop-i
invariant-loop-i l = record {
  cells : cells_of l.carry.so_far.tallies ≡ l.i;
  sums : from_acc l.nodata l.carry l.row l.acc l.corr l.i (l.i + 1) ≡ acc_after (sanitised_row l.nodata l.initial.row) l.initial.acc l.initial.corr;
  corrections : from_corr l.nodata l.carry l.row l.acc l.corr l.i (l.i + 1) ≡ corr_after (sanitised_row l.nodata l.initial.row) l.initial.acc l.initial.corr;
  clean : map_from (sanitised l.nodata) l.row l.i ≡ sanitised_row l.nodata l.initial.row;
  tallies : tallies_from l.nodata l.carry.so_far.tallies (drop l.i l.row) ≡ row_tallies l.nodata l.initial.row;
  digests : digest_of l.carry.so_far.digest (sanitised_row l.nodata (drop l.i l.row)) ≡ digest_of l.digest (sanitised_row l.nodata l.initial.row);
}
