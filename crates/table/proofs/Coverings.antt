-- What `covering` answers is on its grid. Assumes nothing.
use mathlib.Core.Path.{◌≡◌, ap}
use mathlib.Core.Bool.{Bool, true, false, cond}
use mathlib.Core.List.{List}
use borrow.Author.Tests.{lt-ltb}
use lib.ListN.{length}
use lib.Ieee.{Float, binary64, sub, le}
use Rattle.refusal.specs.Refusal.{Outcome, answered}
use Rattle.refusal.proofs.Chains.{went_on}
use Rattle.float.specs.Constants.{f64p360}
use Rattle.grid.specs.declared.Grid.{Grid}
use Rattle.grid.specs.Grid.{tolerance}
use Rattle.grid.specs.Lookup.{cell_containing}
use Rattle.layout.specs.Place.{payload_length}
use Rattle.table.specs.private.Held.{Held}
use Rattle.table.specs.declared.ColSpan.{ColSpan}
use Rattle.table.specs.declared.ColSpan.TheVariants.{Through, FullTurn}
use Rattle.table.specs.declared.RowBand.{RowBand}
use Rattle.table.specs.declared.Window.{Window}
use Rattle.table.specs.Rectangle.{row_band, span_on_grid}
use Rattle.table.specs.Extent.{point_at, covering_columns, covering}
use Rattle.table.proofs.Bands.{band_ordered, band_below}
use Rattle.table.proofs.Cells.{cell_on}
use Rattle.table.proofs.Checks.{OnGrid}

either : {A P : Type 0} (t : Bool) (o u : Outcome A) (a : A) → cond t o u ≡ answered a → (o ≡ answered a → P) → (u ≡ answered a → P) → P
either true o u a e k l = k e
either false o u a e k l = l e

parts : (r s : RowBand) (c d : ColSpan) → ◌≡◌ {A = Outcome (RowBand × ColSpan)} (answered (r, c)) (answered (s, d)) → (r ≡ s) × (c ≡ d)
parts r s c d e =
    let p : ◌≡◌ {A = RowBand × ColSpan} (r, c) (s, d) = cc in
    (ap (λ (x : RowBand × ColSpan). x.0) p, ap (λ (x : RowBand × ColSpan). x.1) p)

module _ (g : Grid) (w : Window) (rows : RowBand) (cols : ColSpan) where
  columns_on : (r : RowBand) → covering_columns g w r ≡ answered (rows, cols) → (r ≡ rows) × (span_on_grid g.width cols ≡ true)
  columns_on r e =
      either (le (sub binary64 f64p360 tolerance) (sub binary64 w.east w.west)) _ _ _ e
      (λ f.
      let p = parts r rows FullTurn cols f in
      (p.0, rw (← p.1)))
      (λ f.
      let west = went_on (cell_containing g (point_at w.north w.west)) _ _ f in
      let east = went_on (cell_containing g (point_at w.north w.east)) _ _ west.2 in
      let a = west.0 in
      let b = east.0 in
      let p = parts r rows (Through (record { 0 = a.1 }) (record { 0 = b.1 })) cols east.2 in
      let a-on = (cell_on g _ a.0 a.1 west.1).col_on in
      let b-on = (cell_on g _ b.0 b.1 east.1).col_on in
      (p.0, rw (← p.1, lt-ltb a.1 g.width a-on, lt-ltb b.1 g.width b-on)))

  -- so a rectangle call on that extent and a table of the right length is not refused
  pub covering_answered : (cells : List Float) → covering g w ≡ answered (rows, cols) → length cells ≡ payload_length g.width g.height
      → OnGrid g cells rows cols
  unfolding covering
  covering_answered cells e l =
      let north = went_on (cell_containing g (point_at w.north g.lon)) _ _ e in
      let south = went_on (cell_containing g (point_at w.south g.lon)) _ _ north.2 in
      let n = north.0 in
      let s = south.0 in
      let p = columns_on (row_band n.0 s.0) south.2 in
      let a = cell_on g _ n.0 n.1 north.1 in
      let b = cell_on g _ s.0 s.1 south.1 in
      let held : Held g (length cells) rows cols = record {
        ordered = rw (← p.0) (band_ordered n.0 s.0);
        right = l;
        south = rw (← p.0) (band_below n.0 s.0 g.height a.row_on b.row_on);
        columns = p.1;
      } in
      record { valid = a.valid; held = held }
