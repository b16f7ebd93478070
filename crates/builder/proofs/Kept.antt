-- What a start and a row call keep: the buffers' lengths, and room for the row handed on. Assumes nothing.
use mathlib.Core.Path.{◌≡◌, refl, ◌∙◌}
use mathlib.Core.Bool.{Bool, true, false, cond}
use mathlib.Core.List.{List}
use Prim.Native.Nat.{ℕ, suc, ◌+◌, ◌*◌, ◌/◌, ◌≤◌, ◌<◌}
use native.Mathlib.Nat.{le_refl, div-le_of_le-mul, mul_comm, suc-mul}
use native.Mathlib.Omega.{arith}
use lib.ListN.{length, length-replicate, length-map}
use lib.Ieee.{Float}
use Rattle.float.specs.Float.{f64zero}
use Rattle.raster.specs.Raster.{sanitised, sanitised_row, row_tallies, plus_tallies, held_tallies}
use Rattle.raster.proofs.Tallies.{cells_of_row, cells_of_sum, tallies_held}
use Rattle.grid.specs.Grid.{limit}
use Rattle.layout.specs.Written.{laid_row}
use Rattle.layout.specs.Map.{EdgeZero}
use Rattle.layout.proofs.Written.{length_laid, edge_kept, length_cleared, edge_zero}
use Rattle.decimation.specs.declared.Decimation.{Decimation}
use Rattle.decimation.proofs.Factors.{Framed, framed, at_most}
use Rattle.sweep.specs.Sweep.{acc_after}
use Rattle.sweep.proofs.Sweeps.{length_acc_after, length_corr_after}
use Rattle.builder.specs.declared.Builder.{Builder}
use Rattle.builder.specs.Rows.{coarse_filled, handed_on}
use Rattle.builder.specs.Build.{Buffers, lengths_of, cleared_buffers, coarse_after, table_after, buffers_after, completes, completed_row}
use Rattle.builder.specs.private.Room.{Sized, Room, RowRoom}
use Rattle.builder.proofs.HandedRows.{length_coarse_filled}
use Rattle.builder.proofs.Builders.{Taken, standing, builder_framed, few_cells}

-- ---- a row handed on

-- the table row that a row completes is in the table
pub completed_inside : (d : Decimation) (rows : ℕ) → Framed d → suc rows ≤ d.source.height → suc rows / d.factor ≤ d.grid.height
completed_inside d rows f h = div-le_of_le-mul d.factor (omega (arith, mul_comm d.grid.height d.factor, f.high))

module _ (d : Decimation) (acc coarse table : ℕ) (r : Room d acc coarse table) where
  own : Framed d
  own = framed d r.valid

  pub some_factor : 0 < d.factor
  some_factor = own.some

  -- the coarse row's samples are in the accumulator, and both have a whole row for the table
  pub samples : coarse * d.factor < acc + d.factor
  samples = rw (r.acc, r.coarse, suc-mul d.grid.width d.factor) (omega (arith, own.wide))

  pub acc_wide : suc d.grid.width ≤ acc
  acc_wide = rw r.acc (omega (arith, at_most d.grid.width d.factor d.source.width d.source.width own.some own.wide (le_refl _)))

  pub coarse_wide : suc d.grid.width ≤ coarse
  coarse_wide = omega (arith, r.coarse)

  pub row_room : (at row : ℕ) → at ≤ d.grid.height → row ≡ suc d.grid.width → RowRoom d.grid at row table
  row_room at row h e = record { inside = h; full = e; table = r.table }

-- ---- lengths

pub sized_cleared : (d : Decimation) (m : Buffers) → Sized d (lengths_of m) → Sized d (lengths_of (cleared_buffers d.grid m))
unfolding cleared_buffers
sized_cleared d m l =
    record {
      acc = length-replicate (length m.acc) f64zero ∙ l.acc;
      corr = length-replicate (length m.corr) f64zero ∙ l.corr;
      coarse = l.coarse;
      table = length_cleared d.grid.width d.grid.height m.table ∙ l.table;
    }

-- past the table's edge a start leaves +0.0
pub edge_cleared : (d : Decimation) (m : Buffers) → Sized d (lengths_of m) → EdgeZero d.grid.width d.grid.height (cleared_buffers d.grid m).table
unfolding cleared_buffers
edge_cleared d m l = edge_zero d.grid.width d.grid.height m.table l.table

module _ (b : Builder) (row : List ℕ) (m : Buffers) (t : Taken b row m) where
  abbrev d : Decimation
  d = b.decimation

  abbrev acc : List Float
  acc = acc_after (sanitised_row b.nodata row) m.acc m.corr

  abbrev filled : List Float
  filled = coarse_filled acc m.coarse d.factor

  abbrev handed : List Float
  handed = handed_on acc filled d.factor (suc d.grid.width)

  wide : length acc ≡ suc d.source.width
  wide = length_acc_after (sanitised_row b.nodata row) m.acc m.corr ∙ t.lengths.acc

  pub taken_room : Room d (length acc) (length m.coarse) (length m.table)
  taken_room = record { valid = (standing b t.valid).made; acc = wide; coarse = t.lengths.coarse; table = t.lengths.table }

  -- so it is with the accumulator that a sweep leaves
  pub swept_room : (left : List Float) → left ≡ acc → Room d (length left) (length m.coarse) (length m.table)
  swept_room left e = rw e taken_room

  pub taken_inside : completed_row b ≤ d.grid.height
  taken_inside = completed_inside d b.rows (builder_framed b t.valid) t.left

  coarse_kept : (done : Bool) → length (cond done filled m.coarse) ≡ length m.coarse
  coarse_kept true = length_coarse_filled acc m.coarse d.factor
  coarse_kept false = refl

  table_kept : (done : Bool) → length (cond done (laid_row d.grid.width m.table (completed_row b) handed) m.table) ≡ length m.table
  table_kept true = length_laid d.grid.width (completed_row b) m.table handed
  table_kept false = refl

  pub sized_after : Sized d (lengths_of (buffers_after b row m))
  unfolding buffers_after coarse_after table_after
  sized_after = record {
    acc = wide;
    corr = length_corr_after (sanitised_row b.nodata row) m.acc m.corr ∙ t.lengths.corr;
    coarse = coarse_kept (completes b) ∙ t.lengths.coarse;
    table = table_kept (completes b) ∙ t.lengths.table;
  }

  -- and a row call what was there
  pub edge_after : EdgeZero d.grid.width d.grid.height m.table → EdgeZero d.grid.width d.grid.height (buffers_after b row m).table
  unfolding buffers_after table_after
  edge_after z = go (completes b)
    where
      go : (done : Bool) → EdgeZero d.grid.width d.grid.height (cond done (laid_row d.grid.width m.table (completed_row b) handed) m.table)
      go true = edge_kept d.grid.width (completed_row b) m.table handed d.grid.height taken_inside z
      go false = z

  pub rows_fit : b.rows + 1 ≤ limit
  rows_fit = omega (arith, t.left, (builder_framed b t.valid).lines)

  pub length_cells : length (sanitised_row b.nodata row) ≡ d.source.width
  length_cells = length-map row (sanitised b.nodata) ∙ t.size

  -- no tally is more than a count holds
  pub tallies_fit : held_tallies (plus_tallies b.tallies (row_tallies b.nodata row)) ≡ plus_tallies b.tallies (row_tallies b.nodata row)
  tallies_fit =
      let f = builder_framed b t.valid in
      let s = standing b t.valid in
      let u = row_tallies b.nodata row in
      let k = few_cells b.rows d.source.width (omega (arith, s.rows, f.lines)) f.columns in
      tallies_held (plus_tallies b.tallies u) (omega (arith, cells_of_sum b.tallies u, s.tallied, cells_of_row b.nodata row, t.size, f.columns))
