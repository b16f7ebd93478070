-- The full map: every cell as the row layout has it, there and back, and the map a place at a time. Assumes nothing.
use mathlib.Core.Path.{◌≡◌, refl, sym, ap, ◌∙◌}
use mathlib.Core.Bool.{Bool, true, false, not, cond, ◌&&◌}
use mathlib.Core.List.{List}
use Prim.Native.Nat.{ℕ, suc, ◌+◌, ◌*◌, ◌/◌, ◌%◌, ◌≤◌, ◌<◌}
use borrow.Author.Tests.{le-leb, leb-true, not-false}
use lib.Dec.{leb}
use lib.ListN.{length, get_or, set}
use lib.Ieee.{Float, nan}
use Rattle.refusal.specs.Refusal.{passed, not_its_makers, wrong_table_length}
use Rattle.refusal.proofs.Chains.{first_passed}
use Rattle.std.proofs.lemmas.Bool.{and_parts}
use Rattle.float.specs.Float.{f64zero}
use Rattle.grid.specs.declared.Grid.{Grid}
use Rattle.grid.specs.Grid.{valid_grid}
use Rattle.grid.proofs.Valid.{grid_sized}
use Rattle.layout.specs.Place.{blocks_over, cell_at, payload_length, corner, right_table, is_cell}
use Rattle.layout.specs.Rows.{row_cell_at, row_length, row_corner, right_rows}
use Rattle.layout.specs.Map.{to_blocks, to_rows, EdgeZero, map_refusal}
use Rattle.layout.specs.private.Sized.{Sized}
use Rattle.layout.proofs.Entries.{length_entries, get_or_entries, entries_are, copied, entries_turn, entries_end}
use Rattle.layout.proofs.Places.{line_inside, cell_inside, place_row, right_length}
use Rattle.layout.proofs.Rows.{row_of_row_cell, column_of_row_cell, row_cell_of_place, row_cell_inside, row_column_inside, row_row_inside}
use Rattle.layout.proofs.Rows.{right_row_length, row_place_is}
use Rattle.layout.proofs.Blocks.{length_blocks, corner_blocks, blocks_are, blocks_turn, blocks_end}

module _ (w h : ℕ) where
  -- a table's cell, by its row and column
  pub is_cell_lem : (r c : ℕ) → r ≤ h → c ≤ w → is_cell w h r c ≡ true
  is_cell_lem r c k l = rw (le-leb r h k, le-leb c w l)

  pub cell_is : (r c : ℕ) → is_cell w h r c ≡ true → (r ≤ h) × (c ≤ w)
  cell_is r c e = let b = and_parts (leb r h) (leb c w) e in (leb-true _ _ b.0, leb-true _ _ b.1)

  -- within the row layout, as the code works its place out
  pub row_cell_within : (r c n : ℕ) → is_cell w h r c ≡ true → n ≡ row_length w h → r * (w + 1) + c < n
  row_cell_within r c n e l = let b = cell_is r c e in rw (l, row_place_is) (row_cell_inside w h r c b.0 b.1)

  pub length_to_blocks : (rows : List Float) → length (to_blocks w h rows) ≡ payload_length w h
  unfolding to_blocks
  length_to_blocks rows = length_blocks w (payload_length w h) _

  pub length_to_rows : (blocks : List Float) → length (to_rows w h blocks) ≡ row_length w h
  unfolding to_rows
  length_to_rows blocks = length_entries _ (row_length w h)

  -- ---- each cell, and what is past the edge

  pub corner_to_blocks : (rows : List Float) (r c : ℕ) → r ≤ h → c ≤ w → corner w (to_blocks w h rows) r c ≡ row_corner w rows r c
  unfolding to_blocks
  corner_to_blocks rows r c k l = corner_blocks w _ _ r c (line_inside w c l) (cell_inside w h r c k l) ∙ rw (is_cell_lem r c k l)

  pub corner_to_rows : (blocks : List Float) (r c : ℕ) → r ≤ h → c ≤ w → row_corner w (to_rows w h blocks) r c ≡ corner w blocks r c
  unfolding row_corner to_rows
  corner_to_rows blocks r c k l =
      get_or_entries _ (row_length w h) (row_cell_at w r c) (row_cell_inside w h r c k l) ∙ rw (row_of_row_cell w r c l, column_of_row_cell w r c l)

  -- ---- there and back

  pub rows_blocks_rows : (rows : List Float) → length rows ≡ row_length w h → to_rows w h (to_blocks w h rows) ≡ rows
  unfolding to_rows row_corner
  rows_blocks_rows rows e =
      sym (entries_are _ (row_length w h) rows e
      (λ q l. ap (λ (n : ℕ). get_or rows n nan) (sym (row_cell_of_place w q))
      ∙ sym (corner_to_blocks rows (q / suc w) (q % suc w) (row_row_inside w h q l) (row_column_inside w q))))

  pub blocks_rows_blocks : (blocks : List Float) → length blocks ≡ payload_length w h → EdgeZero w h blocks → to_blocks w h (to_rows w h blocks) ≡ blocks
  unfolding to_blocks
  blocks_rows_blocks blocks e z = sym (blocks_are w (payload_length w h) _ blocks e (λ r c k l. at r c k l (is_cell w h r c) refl))
    where
      at : (r c : ℕ) → c < blocks_over w * 8 → cell_at w r c < payload_length w h → (t : Bool) → is_cell w h r c ≡ t
          → corner w blocks r c ≡ cond t (row_corner w (to_rows w h blocks) r c) f64zero
      at r c k l true i = let b = cell_is r c i in sym (corner_to_rows blocks r c b.0 b.1)
      at r c k l false i = z r c (place_row w h r c k l) k i

-- ---- the map a place at a time

module _ (w h : ℕ) where
  pub mapped_turn : (rows dst : List Float) → length dst ≡ payload_length w h
      → (at r c : ℕ) (x : Float) → cell_at w r c ≡ at → c < blocks_over w * 8 → at < payload_length w h
      → x ≡ cond (is_cell w h r c) (row_corner w rows r c) f64zero
      → set (copied dst (to_blocks w h rows) at) at x ≡ copied dst (to_blocks w h rows) (at + 1)
  unfolding to_blocks
  mapped_turn rows dst size at r c x e k l q = blocks_turn w (payload_length w h) _ dst size at r c x e k l q

  pub mapped_end : (rows dst : List Float) → length dst ≡ payload_length w h → (at : ℕ) → payload_length w h ≤ at
      → copied dst (to_blocks w h rows) at ≡ to_blocks w h rows
  unfolding to_blocks
  mapped_end rows dst size at l = blocks_end w (payload_length w h) _ dst size at l

  -- a cell of the row layout is in one of its rows
  pub row_on : (at r c l : ℕ) → row_cell_at w r c ≡ at → c ≤ w → at < l → l ≡ row_length w h → r ≤ h
  row_on at r c l e k i s = rw (← e, row_of_row_cell w r c k) at (row_row_inside w h at (rw s at i))

  -- and has a place in blocks
  pub row_within : (at r c l n : ℕ) → row_cell_at w r c ≡ at → c ≤ w → at < l → l ≡ row_length w h → n ≡ payload_length w h → cell_at w r c < n
  row_within at r c l n e k i s t = rw t (cell_inside w h r c (row_on at r c l e k i s) k)

  module _ (blocks dst : List Float) (size : length dst ≡ row_length w h) where
    pub row_turn : (at r c : ℕ) (x : Float) → row_cell_at w r c ≡ at → c ≤ w → at < row_length w h → x ≡ corner w blocks r c
        → set (copied dst (to_rows w h blocks) at) at x ≡ copied dst (to_rows w h blocks) (at + 1)
    unfolding to_rows
    row_turn at r c x e k l q =
        let row : at / suc w ≡ r = rw (← e) (row_of_row_cell w r c k) in
        let column : at % suc w ≡ c = rw (← e) (column_of_row_cell w r c k) in
        rw (← size) (entries_turn _ dst at x (rw size l) (rw (row, column) q))

    pub row_end : (at : ℕ) → row_length w h ≤ at → copied dst (to_rows w h blocks) at ≡ to_rows w h blocks
    unfolding to_rows
    row_end at l = rw (← size) (entries_end _ dst at (rw size l))

-- ---- the checks

pub map_sized : (g : Grid) (rows blocks : List Float) → map_refusal g rows blocks ≡ 0 → Sized g (length rows) (length blocks)
unfolding map_refusal
map_sized g rows blocks e =
    let p = first_passed (not (valid_grid g)) not_its_makers _ tt e in
    let q = first_passed (not (right_rows g rows && right_table g blocks)) wrong_table_length passed tt p.1 in
    let right = and_parts (right_rows g rows) (right_table g blocks) (not-false _ q.0) in
    let s = grid_sized g (not-false (valid_grid g) p.0) in
    record { columns = s.columns; lines = s.lines; rows = right_row_length g rows right.0; blocks = right_length g blocks right.1 }
