-- One cell of a sweep, by the records of the code.
use Rattle.std.specs.Prelude.{ℕ, Float}
use Rattle.digest.specs.Digest.{mixed}
use Rattle.raster.specs.Raster.{cell_value, kind_of, sanitised, tallied, held_tallies}
use Rattle.sweep.specs.Sweep.{taken_in}
use Rattle.sweep.specs.declared.Carry.{Carry}
use Rattle.sweep.specs.declared.Column.{Column}

-- the row's prefix takes in the cell of those bits, sanitised, then the column's sum and correction take in the prefix; digest and tallies have a cell more
unfoldable pub swept : ℕ → Carry → ℕ → Float → Float → Column
swept nodata s bits acc corr =
    let x = sanitised nodata bits in
    let p = taken_in s.prefix.sum s.prefix.dropped (cell_value x) in
    record {
      after = taken_in acc corr p.sum;
      cell = x;
      carry = record {
        prefix = p;
        so_far = record { digest = mixed s.so_far.digest x; tallies = held_tallies (tallied s.so_far.tallies (kind_of nodata bits)) };
      };
    }
