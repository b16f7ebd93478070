-- What a rectangle call that is not refused has passed, and that the whole extent of a grid passes. Assumes nothing.
use mathlib.Core.Path.{◌≡◌, refl, sym, ap, ◌∙◌}
use mathlib.Core.Bool.{Bool, true, false, not, cond, ◌&&◌}
use mathlib.Core.List.{List}
use Prim.Native.Nat.{ℕ, suc, ◌+◌, ◌-◌, ◌<◌, ◌≤◌}
use native.Mathlib.Omega.{arith}
use borrow.Author.Tests.{leb-true, le-leb, leb-false, lt-leb, ltb-true, lt-ltb, not-false}
use lib.Dec.{leb, ltb}
use lib.ListN.{length}
use lib.Ieee.{Float, nan}
use Rattle.refusal.specs.Refusal.{answered, first, passed, not_its_makers, wrong_table_length, row_off_grid, column_off_grid}
use Rattle.refusal.proofs.Chains.{first_passed, answered_passed}
use Rattle.std.proofs.lemmas.Bool.{and_parts}
use Rattle.grid.specs.declared.Col.{Col}
use Rattle.grid.specs.declared.Grid.{Grid}
use Rattle.grid.specs.Grid.{valid_grid}
use Rattle.grid.proofs.Valid.{grid_sized}
use Rattle.layout.specs.Place.{run_at, payload_length, corner, right_table}
use Rattle.layout.proofs.Places.{place_by_row, cells_in_order, cell_inside, right_table_lem, right_length}
use Rattle.table.specs.private.Held.{Held}
use Rattle.table.specs.private.Lines.{LinesOf, line_cells}
use Rattle.table.specs.declared.Lines.{Lines}
use Rattle.table.specs.declared.ColSpan.{ColSpan}
use Rattle.table.specs.declared.ColSpan.TheVariants.{Through, FullTurn}
use Rattle.table.specs.declared.RowBand.{RowBand}
use Rattle.table.specs.Rectangle.{row_band, box_sum, rectangle_sum, rectangle_held, held_sum, span_on_grid, rectangle_refusal}
use Rattle.table.specs.Extent.{whole_extent}

-- the checks of a rectangle, 22, 11, 15 and 16, as facts: of any layout, and over a table's cells
pub record RectanglePassed (g : Grid) (sized : Bool) (rows : RowBand) (cols : ColSpan) : Type 0 where
  pub valid : valid_grid g ≡ true
  pub ordered : rows.north.0 ≤ rows.south.0
  pub right : sized ≡ true
  pub south : rows.south.0 < g.height
  pub columns : span_on_grid g.width cols ≡ true

pub rectangle_passed : (g : Grid) (right : Bool) (rows : RowBand) (cols : ColSpan) → rectangle_refusal g right rows cols ≡ 0 → RectanglePassed g right rows cols
unfolding rectangle_refusal
rectangle_passed g right rows cols e =
    let p22 = first_passed (not (valid_grid g && leb rows.north.0 rows.south.0)) not_its_makers _ tt e in
    let p11 = first_passed (not right) wrong_table_length _ tt p22.1 in
    let p15 = first_passed (leb g.height rows.south.0) row_off_grid _ tt p11.1 in
    let p16 = first_passed (not (span_on_grid g.width cols)) column_off_grid passed tt p15.1 in
    let made = and_parts (valid_grid g) (leb rows.north.0 rows.south.0) (not-false _ p22.0) in
    record {
      valid = made.0;
      ordered = leb-true _ _ made.1;
      right = not-false right p11.0;
      south = leb-false _ _ p15.0;
      columns = not-false (span_on_grid g.width cols) p16.0;
    }

-- the cells of a band's two table rows are the table's
module _ (w : ℕ) (rows : RowBand) (cells : List Float) (lines : Lines) (e : LinesOf w rows cells lines) where
  box_by_lines : (a b : ℕ) → box_sum (line_cells lines) 0 0 a b ≡ box_sum (corner w cells) rows.north.0 rows.south.0 a b
  unfolding box_sum corner
  box_by_lines a b =
      rw (
        e.cells,
        place_by_row w (suc rows.south.0) b lines.bottom (run_at b) e.bottom refl,
        place_by_row w rows.north.0 b lines.top (run_at b) e.top refl,
        place_by_row w (suc rows.south.0) a lines.bottom (run_at a) e.bottom refl,
        place_by_row w rows.north.0 a lines.top (run_at a) e.top refl,
      )

  pub sum_by_lines : (cols : ColSpan) → rectangle_sum w (line_cells lines) 0 0 cols ≡ rectangle_sum w (corner w cells) rows.north.0 rows.south.0 cols
  unfolding rectangle_sum
  sum_by_lines FullTurn = box_by_lines 0 w
  sum_by_lines (Through west east) =
      rw (box_by_lines west.0 (suc east.0), box_by_lines west.0 w, box_by_lines 0 (suc east.0))

pub record OnGrid (g : Grid) (cells : List Float) (rows : RowBand) (cols : ColSpan) : Type 0 where
  pub valid : valid_grid g ≡ true
  pub held : Held g (length cells) rows cols

module _ (g : Grid) (cells : List Float) (rows : RowBand) (cols : ColSpan) where
  -- by what the test came out as
  pub held_facts : (test : Bool) → test ≡ rectangle_held g cells rows cols → test ≡ true → Held g (length cells) rows cols
  unfolding rectangle_held
  held_facts test is e =
      let p = and_parts _ _ (sym is ∙ e) in
      let q = and_parts _ _ p.0 in
      let r = and_parts _ _ q.1 in
      record {
        ordered = leb-true _ _ r.0;
        right = right_length g cells q.0;
        south = ltb-true _ _ r.1;
        columns = p.1;
      }

  is_held : Held g (length cells) rows cols → rectangle_held g cells rows cols ≡ true
  unfolding rectangle_held
  is_held h = simp (right_table_lem g cells h.right, le-leb _ _ h.ordered, lt-ltb _ _ h.south, h.columns)

  -- the sum of a rectangle that the table holds
  pub held_sum_lem : Held g (length cells) rows cols
      → held_sum g cells rows cols ≡ rectangle_sum g.width (corner g.width cells) rows.north.0 rows.south.0 cols
  unfolding held_sum
  held_sum_lem h = rw (is_held h)

  pub not_held : (test : Bool) → test ≡ rectangle_held g cells rows cols → test ≡ false → nan ≡ held_sum g cells rows cols
  unfolding held_sum
  not_held test is e = rw (sym is ∙ e)

  -- and by the first cells of its two table rows
  pub held_by_lines : Held g (length cells) rows cols → (lines : Lines) → LinesOf g.width rows cells lines
      → rectangle_sum g.width (line_cells lines) 0 0 cols ≡ held_sum g cells rows cols
  held_by_lines h lines e = sum_by_lines g.width rows cells lines e cols ∙ sym (held_sum_lem h)

  pub on_grid : rectangle_refusal g (right_table g cells) rows cols ≡ 0 → OnGrid g cells rows cols
  on_grid e =
      let p = rectangle_passed g (right_table g cells) rows cols e in
      let held : Held g (length cells) rows cols =
      record { ordered = p.ordered; right = right_length g cells p.right; south = p.south; columns = p.columns } in
      record { valid = p.valid; held = held }

  pub not_refused : OnGrid g cells rows cols → rectangle_refusal g (right_table g cells) rows cols ≡ 0
  unfolding rectangle_refusal
  not_refused o =
      let h = o.held in
      simp (o.valid, le-leb _ _ h.ordered, right_table_lem g cells h.right, lt-leb _ _ h.south, h.columns)

-- both columns of a span are the grid's
pub span_columns : (width : ℕ) (west east : Col) → span_on_grid width (Through west east) ≡ true → (west.0 < width) × (east.0 < width)
span_columns width west east e =
    let p = and_parts (ltb west.0 width) (ltb east.0 width) e in
    (ltb-true _ _ p.0, ltb-true _ _ p.1)

module _ (g : Grid) (cells : ℕ) (rows : RowBand) (cols : ColSpan) (h : Held g cells rows cols) where
  pub held_columns : (west east : Col) → cols ≡ Through west east → (west.0 < g.width) × (east.0 < g.width)
  held_columns west east e = span_columns g.width west east (rw e at h.columns)

  -- its table rows are in order, and the last cell of the lower one is in the table
  module _ (t : List Float) (size : length t ≡ cells) (lines : Lines) (e : LinesOf g.width rows t lines) where
    pub lines_ordered : lines.top ≤ lines.bottom
    lines_ordered = rw (e.top, e.bottom) (cells_in_order g.width _ _ 0 0 (omega (arith, h.ordered)) (omega arith))

    pub lines_inside : lines.bottom + run_at g.width < length lines.cells.now
    lines_inside =
        rw (place_by_row g.width (suc rows.south.0) g.width _ (run_at g.width) e.bottom refl, e.cells, size, h.right)
        (cell_inside g.width g.height (suc rows.south.0) g.width h.south (omega arith))

-- the first piece of its columns ends on the grid
pub first_piece : (w : ℕ) (west east : Col) → west.0 < w → east.0 < w
    → (west.0 ≤ cond (leb west.0 east.0) (suc east.0) w) × (cond (leb west.0 east.0) (suc east.0) w ≤ w)
first_piece w west east l m = go (leb west.0 east.0) refl
  where
    go : (t : Bool) → leb west.0 east.0 ≡ t → (west.0 ≤ cond t (suc east.0) w) × (cond t (suc east.0) w ≤ w)
    go true e = (omega (arith, leb-true west.0 east.0 e), omega arith)
    go false e = (omega arith, omega arith)

-- the whole extent passes the checks on a table of the right length
pub whole_on_grid : (g : Grid) (cells : List Float) → valid_grid g ≡ true → length cells ≡ payload_length g.width g.height
    → OnGrid g cells (row_band 0 (g.height - 1)) FullTurn
whole_on_grid g cells v l =
    let s = grid_sized g v in
    let held : Held g (length cells) (row_band 0 (g.height - 1)) FullTurn =
    record { ordered = omega arith; right = l; south = omega (arith, s.high); columns = refl } in
    record { valid = v; held = held }

pub whole_answered : (g : Grid) (cells : List Float) (rows : RowBand) (cols : ColSpan) → whole_extent g ≡ answered (rows, cols)
    → length cells ≡ payload_length g.width g.height → OnGrid g cells rows cols
unfolding whole_extent
whole_answered g cells rows cols e l =
    let p = answered_passed (first (not (valid_grid g)) not_its_makers passed) (row_band 0 (g.height - 1), FullTurn) (rows, cols) e in
    let v = not-false (valid_grid g) (first_passed (not (valid_grid g)) not_its_makers passed tt p.0).0 in
    let r : row_band 0 (g.height - 1) ≡ rows = ap (λ x. x.0) p.1 in
    let c : FullTurn ≡ cols = ap (λ x. x.1) p.1 in
    rw (← r, ← c) (whole_on_grid g cells v l)
