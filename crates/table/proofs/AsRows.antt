-- Document 02, C-16: a rectangle of a table in blocks is answered as the row layout's was, to the bit. Assumes nothing.
use mathlib.Core.Path.{◌≡◌, sym}
use mathlib.Core.Bool.{Bool, true}
use mathlib.Core.List.{List}
use Prim.Native.Nat.{ℕ, suc, ◌≤◌, ◌<◌}
use native.Mathlib.Omega.{arith}
use lib.ListN.{length}
use lib.Ieee.{Float}
use Rattle.refusal.proofs.Chains.{outcome_same}
use Rattle.grid.specs.declared.Grid.{Grid}
use Rattle.layout.specs.Place.{payload_length}
use Rattle.layout.specs.Rows.{row_length}
use Rattle.layout.specs.Map.{to_blocks, to_rows}
use Rattle.layout.proofs.Places.{right_table_lem}
use Rattle.layout.proofs.Rows.{right_rows_lem}
use Rattle.layout.proofs.Maps.{length_to_blocks, length_to_rows, corner_to_blocks, corner_to_rows}
use Rattle.table.specs.declared.ColSpan.{ColSpan}
use Rattle.table.specs.declared.ColSpan.TheVariants.{Through, FullTurn}
use Rattle.table.specs.declared.RowBand.{RowBand}
use Rattle.table.specs.Rectangle.{box_sum, rectangle_sum, span_on_grid, rectangle_refusal, rectangle_by, rectangle_population, row_rectangle_population}
use Rattle.table.proofs.Checks.{span_columns, rectangle_passed}

-- ---- two ways to read a cell that agree on the table's cells

module _ (g : Grid) (f k : ℕ → ℕ → Float) (same : (r c : ℕ) → r ≤ g.height → c ≤ g.width → f r c ≡ k r c) where
  box_same : (north south first last : ℕ) → north ≤ south → south < g.height → first ≤ g.width → last ≤ g.width
      → box_sum f north south first last ≡ box_sum k north south first last
  unfolding box_sum
  box_same north south first last o s a b =
      let n : north ≤ g.height = omega arith in
      rw (same (suc south) last s b, same north last n b, same (suc south) first s a, same north first n a)

  pub rectangle_same : (north south : ℕ) (cols : ColSpan) → north ≤ south → south < g.height → span_on_grid g.width cols ≡ true
      → rectangle_sum g.width f north south cols ≡ rectangle_sum g.width k north south cols
  unfolding rectangle_sum
  rectangle_same north south FullTurn o s on = box_same north south 0 g.width o s (omega arith) (omega arith)
  rectangle_same north south (Through west east) o s on =
      let c = span_columns g.width west east on in
      let w : west.0 ≤ g.width = omega (arith, c.0) in
      rw (
        box_same north south west.0 (suc east.0) o s w c.1,
        box_same north south west.0 g.width o s w (omega arith),
        box_same north south 0 (suc east.0) o s (omega arith) c.1,
      )

  rectangle_by_same : (right : Bool) (rows : RowBand) (cols : ColSpan) → rectangle_by g right f rows cols ≡ rectangle_by g right k rows cols
  rectangle_by_same right rows cols =
      outcome_same (rectangle_refusal g right rows cols) _ _
      (λ e. let p = rectangle_passed g right rows cols e in rectangle_same rows.north.0 rows.south.0 cols p.ordered p.south p.columns)

-- ---- the rectangle call, refusals included

module _ (g : Grid) (rows : RowBand) (cols : ColSpan) where
  -- on the image of a table in row layout
  pub rectangle_as_rows : (cells : List Float) → length cells ≡ row_length g.width g.height
      → rectangle_population g (to_blocks g.width g.height cells) rows cols ≡ row_rectangle_population g cells rows cols
  unfolding rectangle_population row_rectangle_population
  rectangle_as_rows cells size =
      let blocks = to_blocks g.width g.height cells in
      rw (right_table_lem g blocks (length_to_blocks g.width g.height cells), right_rows_lem g cells size)
      (rectangle_by_same g _ _ (corner_to_blocks g.width g.height cells) true rows cols)

  -- and on any blocks, whatever they hold past the edge
  pub rectangle_of_blocks : (blocks : List Float) → length blocks ≡ payload_length g.width g.height
      → rectangle_population g blocks rows cols ≡ row_rectangle_population g (to_rows g.width g.height blocks) rows cols
  unfolding rectangle_population row_rectangle_population
  rectangle_of_blocks blocks size =
      let cells = to_rows g.width g.height blocks in
      rw (right_table_lem g blocks size, right_rows_lem g cells (length_to_rows g.width g.height blocks))
      (rectangle_by_same g _ _ (λ r c i j. sym (corner_to_rows g.width g.height blocks r c i j)) true rows cols)
