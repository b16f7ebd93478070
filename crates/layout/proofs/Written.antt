-- What a start and a row handed on leave of a table, cell by cell. Assumes nothing.
use mathlib.Core.Path.{◌≡◌, refl, sym, ◌∙◌}
use mathlib.Core.Logic.{◌≢◌}
use mathlib.Core.Bool.{Bool, true, false, cond, ◌&&◌, and-false, false≢true}
use mathlib.Core.List.{List}
use Prim.Native.Nat.{ℕ, ◌*◌, ◌<◌, ◌≤◌}
use native.Mathlib.Omega.{arith}
use borrow.Author.Tests.{eqb-true, ltb-true, ltb-false, eq-eqb, ne_eqb, le-leb}
use lib.Dec.{eqb, leb, ltb}
use lib.ListN.{length, get_or, get_or-eq_default}
use lib.Ieee.{Float, nan}
use Rattle.float.specs.Float.{f64zero}
use Rattle.layout.specs.Place.{blocks_over, cell_at, payload_length, corner, in_blocks}
use Rattle.layout.specs.Written.{cleared_table, laid_row}
use Rattle.layout.specs.Map.{EdgeZero}
use Rattle.layout.proofs.Places.{line_inside, cell_inside, place_inside}
use Rattle.layout.proofs.Blocks.{length_blocks, corner_blocks}

-- a table written by its cells: one that the new cells leave holds what it held, in the table or not
module _ (w : ℕ) (cells : List Float) (f : ℕ → ℕ → Float) where
  kept : (r c : ℕ) → c < blocks_over w * 8 → f r c ≡ corner w cells r c → corner w (in_blocks w (length cells) f) r c ≡ corner w cells r c
  unfolding corner
  kept r c k e = go (ltb (cell_at w r c) (length cells)) refl
    where
      go : (t : Bool) → ltb (cell_at w r c) (length cells) ≡ t → get_or (in_blocks w (length cells) f) (cell_at w r c) nan ≡ get_or cells (cell_at w r c) nan
      go true l = corner_blocks w (length cells) f r c k (ltb-true _ _ l) ∙ e
      go false l =
          let past : length cells ≤ cell_at w r c = ltb-false _ _ l in
          let far : length (in_blocks w (length cells) f) ≤ cell_at w r c = rw (length_blocks w (length cells) f) past in
          rw (get_or-eq_default (in_blocks w (length cells) f) nan far, get_or-eq_default cells nan past)

-- ---- a row handed on

module _ (w at : ℕ) (cells row : List Float) where
  pub length_laid : length (laid_row w cells at row) ≡ length cells
  unfolding laid_row
  length_laid = length_blocks w (length cells) _

  -- its cells are the row's, in a table that has them
  pub corner_laid : (h c : ℕ) → length cells ≡ payload_length w h → at ≤ h → c ≤ w → corner w (laid_row w cells at row) at c ≡ get_or row c nan
  unfolding laid_row
  corner_laid h c right inside k =
      corner_blocks w (length cells) _ at c (line_inside w c k) (rw right (cell_inside w h at c inside k)) ∙ simp (eq-eqb at at refl, le-leb c w k)

  -- those of every other table row stay, and so does what is past the edge
  pub corner_kept : (r c : ℕ) → r ≢ at → c < blocks_over w * 8 → corner w (laid_row w cells at row) r c ≡ corner w cells r c
  unfolding laid_row
  corner_kept r c n k = kept w cells _ r c k (rw (ne_eqb r at n))

  pub edge_kept : (h : ℕ) → at ≤ h → EdgeZero w h cells → EdgeZero w h (laid_row w cells at row)
  unfolding laid_row
  edge_kept h inside z r c k l e = kept w cells _ r c l (go (eqb r at) (leb c w) refl refl) ∙ z r c k l e
    where
      go : (a b : Bool) → eqb r at ≡ a → leb c w ≡ b → cond (a && b) (get_or row c nan) (corner w cells r c) ≡ corner w cells r c
      go true true ea eb = let on : r ≤ h = rw (eqb-true r at ea) inside in absurd (false≢true (sym e ∙ rw (le-leb r h on, eb)))
      go true false ea eb = refl
      go false b ea eb = refl

-- ---- a start

module _ (w h : ℕ) (cells : List Float) where
  pub length_cleared : length (cleared_table w h cells) ≡ length cells
  unfolding cleared_table
  length_cleared = length_blocks w (length cells) _

  -- table row 0 is zeros, and so is what is past the edge; every other cell stays
  pub first_row_zero : (c : ℕ) → length cells ≡ payload_length w h → c ≤ w → corner w (cleared_table w h cells) 0 c ≡ f64zero
  unfolding cleared_table
  first_row_zero c right k = corner_blocks w (length cells) _ 0 c (line_inside w c k) (rw right (cell_inside w h 0 c (omega arith) k))

  pub edge_zero : length cells ≡ payload_length w h → EdgeZero w h (cleared_table w h cells)
  unfolding cleared_table
  edge_zero right r c k l e = corner_blocks w (length cells) _ r c l (rw right (place_inside w h r c k l)) ∙ rw (e, and-false)

  pub other_cells_kept : (r c : ℕ) → 0 < r → r ≤ h → c ≤ w → corner w (cleared_table w h cells) r c ≡ corner w cells r c
  unfolding cleared_table
  other_cells_kept r c p k l = kept w cells _ r c (line_inside w c l) (rw (le-leb 1 r p, le-leb r h k, le-leb c w l))
