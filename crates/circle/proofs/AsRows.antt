-- Document 02, C-16: a circle on a table in blocks is answered as the row layout's was, to the bit. Assumes nothing.
use mathlib.Core.Path.{◌≡◌, refl, sym}
use mathlib.Core.Bool.{Bool, true, false, cond}
use mathlib.Core.List.{List, [], ◌∷◌}
use Prim.Native.Nat.{ℕ, suc, ◌+◌, ◌≤◌, ◌<◌}
use native.Mathlib.Omega.{arith}
use lib.Dec.{eqb}
use lib.IntN.{pos, neg_ℤ}
use lib.ListN.{length, take}
use lib.Seq.{length-take-le}
use lib.Ieee.{Float}
use Rattle.refusal.proofs.Chains.{outcome_same}
use Rattle.float.specs.Float.{f64zero}
use Rattle.grid.specs.Lookup.{col_along}
use Rattle.grid.specs.declared.Col.{Col}
use Rattle.grid.specs.declared.Grid.{Grid}
use Rattle.layout.specs.Place.{payload_length}
use Rattle.layout.specs.Rows.{row_length}
use Rattle.layout.specs.Map.{to_blocks, to_rows}
use Rattle.layout.proofs.Places.{right_table_lem}
use Rattle.layout.proofs.Rows.{right_rows_lem}
use Rattle.layout.proofs.Maps.{length_to_blocks, length_to_rows, corner_to_blocks, corner_to_rows}
use Rattle.table.specs.declared.ColSpan.TheVariants.{Through, FullTurn}
use Rattle.table.specs.Rectangle.{span_on_grid}
use Rattle.table.proofs.AsRows.{rectangle_same}
use Rattle.cap.specs.Cap.{closing}
use Rattle.kernel.specs.declared.Kernel.{Kernel}
use Rattle.circle.specs.Circle.{span_around, circle_from, circle_sum, circle_refusal, circle_by, circle_population, row_circle_population}
use Rattle.circle.proofs.Placed.{span_on}
use Rattle.circle.proofs.Checks.{circle_passed}

-- a row's columns are the grid's
around_on : (w centre h : ℕ) → centre < w → span_on_grid w (span_around w centre h) ≡ true
unfolding span_around
around_on w centre h l = go (eqb h (closing w))
  where
    go : (t : Bool) → span_on_grid w (cond t FullTurn (Through (record { 0 = col_along w centre (neg_ℤ (pos h)) }) (record { 0 = col_along w centre (pos h) }))) ≡ true
    go true = refl
    go false = span_on w centre l (neg_ℤ (pos h)) (pos h) _ _ refl refl

-- ---- two ways to read a cell that agree on the table's cells

module _ (g : Grid) (f k : ℕ → ℕ → Float) (same : (r c : ℕ) → r ≤ g.height → c ≤ g.width → f r c ≡ k r c) where
  rows_same : (centre : ℕ) → centre < g.width → (row : ℕ) (hs : List ℕ) (people : Float) → row + length hs ≤ g.height
      → circle_from g.width f centre row hs people ≡ circle_from g.width k centre row hs people
  rows_same centre on row [] people l = refl
  rows_same centre on row (h ∷ hs) people l =
      rw (rectangle_same g f k same row row (span_around g.width centre h) (omega arith) (omega arith) (around_on g.width centre h on))
      (rows_same centre on (suc row) hs _ (omega arith))

  circle_by_same : (right : Bool) (kernel : Kernel) (widths : List ℕ) (centre : Col)
      → circle_by g right f kernel widths centre ≡ circle_by g right k kernel widths centre
  unfolding circle_sum
  circle_by_same right kernel widths centre =
      outcome_same (circle_refusal g right kernel widths centre) _ _
      (λ e.
      let p = circle_passed g right kernel widths centre e in
      rows_same centre.0 p.on kernel.north.0 (take kernel.count widths) f64zero
      (rw (length-take-le kernel.count widths p.slice) p.rows))

-- ---- the circle call, refusals included

module _ (g : Grid) (kernel : Kernel) (widths : List ℕ) (centre : Col) where
  -- on the image of a table in row layout
  pub circle_as_rows : (cells : List Float) → length cells ≡ row_length g.width g.height
      → circle_population g (to_blocks g.width g.height cells) kernel widths centre ≡ row_circle_population g cells kernel widths centre
  unfolding circle_population row_circle_population
  circle_as_rows cells size =
      let blocks = to_blocks g.width g.height cells in
      rw (right_table_lem g blocks (length_to_blocks g.width g.height cells), right_rows_lem g cells size)
      (circle_by_same g _ _ (corner_to_blocks g.width g.height cells) true kernel widths centre)

  -- and on any blocks, whatever they hold past the edge
  pub circle_of_blocks : (blocks : List Float) → length blocks ≡ payload_length g.width g.height
      → circle_population g blocks kernel widths centre ≡ row_circle_population g (to_rows g.width g.height blocks) kernel widths centre
  unfolding circle_population row_circle_population
  circle_of_blocks blocks size =
      let cells = to_rows g.width g.height blocks in
      rw (right_table_lem g blocks size, right_rows_lem g cells (length_to_rows g.width g.height blocks))
      (circle_by_same g _ _ (λ r c i j. sym (corner_to_rows g.width g.height blocks r c i j)) true kernel widths centre)
