-- A table by its cells. Assumes nothing.
use mathlib.Core.Path.{◌≡◌, refl, ap, ◌∙◌}
use mathlib.Core.Bool.{Bool, true, false, cond, ◌&&◌}
use mathlib.Core.List.{List}
use Prim.Native.Nat.{ℕ, ◌+◌, ◌*◌, ◌<◌, ◌≤◌}
use borrow.Author.Tests.{eqb-true, eqb-false}
use lib.Dec.{eqb}
use lib.ListN.{length, get_or, set, length-set}
use lib.Seq.{get_or-set_same, get_or-set_other}
use lib.Ieee.{Float, nan}
use Rattle.layout.specs.Place.{blocks_over, cell_at, corner, row_of, column_of, in_blocks}
use Rattle.layout.proofs.Entries.{length_entries, get_or_entries, entries_are, copied, entries_turn, entries_end}
use Rattle.layout.proofs.Places.{row_of_cell, column_of_cell, cell_of_place, column_inside}

module _ (w n : ℕ) (f : ℕ → ℕ → Float) where
  pub length_blocks : length (in_blocks w n f) ≡ n
  unfolding in_blocks
  length_blocks = length_entries _ n

  -- each cell is what was given for it
  pub corner_blocks : (r c : ℕ) → c < blocks_over w * 8 → cell_at w r c < n → corner w (in_blocks w n f) r c ≡ f r c
  unfolding corner in_blocks
  corner_blocks r c k l = get_or_entries _ n (cell_at w r c) l ∙ rw (row_of_cell w r c k, column_of_cell w r c k)

  -- a table with these cells is that table
  pub blocks_are : (cells : List Float) → length cells ≡ n
      → ((r c : ℕ) → c < blocks_over w * 8 → cell_at w r c < n → corner w cells r c ≡ f r c) → cells ≡ in_blocks w n f
  unfolding corner in_blocks
  blocks_are cells e h =
      entries_are _ n cells e
      (λ p l. rw (cell_of_place w p) at (h (row_of w p) (column_of w p) (column_inside w p) (rw (cell_of_place w p) l)))

  -- one cell set
  pub set_blocks : (r c : ℕ) (x : Float) → c < blocks_over w * 8
      → set (in_blocks w n f) (cell_at w r c) x ≡ in_blocks w n (λ s d. cond (eqb s r && eqb d c) x (f s d))
  unfolding in_blocks
  set_blocks r c x k =
      entries_are _ n _ (length-set (in_blocks w n f) (cell_at w r c) x ∙ length_entries _ n) (λ p l. at p l (eqb (row_of w p) r) (eqb (column_of w p) c) refl refl)
    where
      other : (p : ℕ) → p < n → (row_of w p ≡ r → column_of w p ≡ c → ⊥) → get_or (set (in_blocks w n f) (cell_at w r c) x) p nan ≡ f (row_of w p) (column_of w p)
      other p l h =
          get_or-set_other (in_blocks w n f) (cell_at w r c) p x nan (λ e. h (ap (row_of w) e ∙ row_of_cell w r c k) (ap (column_of w) e ∙ column_of_cell w r c k))
          ∙ get_or_entries _ n p l

      at : (p : ℕ) → p < n → (a b : Bool) → eqb (row_of w p) r ≡ a → eqb (column_of w p) c ≡ b
          → get_or (set (in_blocks w n f) (cell_at w r c) x) p nan ≡ cond (a && b) x (f (row_of w p) (column_of w p))
      at p l true true ea eb =
          let e : cell_at w r c ≡ p = rw (eqb-true (row_of w p) r ea, eqb-true (column_of w p) c eb) at (cell_of_place w p) in
          rw e (get_or-set_same (in_blocks w n f) p x nan (rw length_blocks l))
      at p l true false ea eb = other p l (λ i j. eqb-false _ _ eb j)
      at p l false b ea eb = other p l (λ i j. eqb-false _ _ ea i)

  -- ---- written over `dst` from the front: the cell at the place that comes next is in row r and column c

  module _ (dst : List Float) (size : length dst ≡ n) where
    pub blocks_turn : (at r c : ℕ) (x : Float) → cell_at w r c ≡ at → c < blocks_over w * 8 → at < n → x ≡ f r c
        → set (copied dst (in_blocks w n f) at) at x ≡ copied dst (in_blocks w n f) (at + 1)
    unfolding in_blocks
    blocks_turn at r c x e k l q =
        let row : row_of w at ≡ r = rw (← e) (row_of_cell w r c k) in
        let column : column_of w at ≡ c = rw (← e) (column_of_cell w r c k) in
        rw (← size) (entries_turn _ dst at x (rw size l) (rw (row, column) q))

    pub blocks_end : (at : ℕ) → n ≤ at → copied dst (in_blocks w n f) at ≡ in_blocks w n f
    unfolding in_blocks
    blocks_end at l = rw (← size) (entries_end _ dst at (rw size l))

-- two tables with the same cells
pub blocks_same : (w n : ℕ) (f g : ℕ → ℕ → Float) → ((r c : ℕ) → c < blocks_over w * 8 → cell_at w r c < n → f r c ≡ g r c) → in_blocks w n f ≡ in_blocks w n g
blocks_same w n f g h = blocks_are w n g (in_blocks w n f) (length_blocks w n f) (λ r c k l. corner_blocks w n f r c k l ∙ h r c k l)
