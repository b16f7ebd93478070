-- Rows with infinities come under the exact count too (document 02, C-12): the ledger's cells are whole if, of the rows as lent, each cell that
-- is finite and above 0 is. Assumes nothing.
use Prim.Native.Nat.{ℕ, zero, suc, ◌^◌}
use native.Mathlib.Nat.{zero-mul}
use mathlib.Core.Path.{◌≡◌, refl}
use mathlib.Core.Logic.{◌⊎◌, inl, inr}
use mathlib.Core.List.{List, [], ◌∷◌, ◌++◌}
use lib.Dec.{T}
use lib.Ieee.{of_bits}
use lib.Ieee.Positive.{positive}
use Rattle.refusal.specs.Refusal.{unless_refused}
use Rattle.raster.specs.Raster.{cell_value, kind_of, sanitised, sanitised_row}
use Rattle.raster.proofs.Sanitised.{Kept, sanitised_is}
use Rattle.grid.specs.declared.Grid.{Grid}
use Rattle.ledger.specs.Ledger.{Call, row, finish, Ledger, entered, ledger_refusal, ledger_step, ledger_after, Every, Whole, WholeAsLent}

every_and : {A : Type 0} (P : A → Type 0) (l : List A) (x : A) → Every P l → P x → Every P (l ++ x ∷ [])
every_and P [] x h p = (p, tt)
every_and P (y ∷ l) x h p = (h.0, every_and P l x h.1 p)

whole_zero : (s : ℕ) → Whole s 0
unfolding of_bits
whole_zero s = (0, (refl, zero-mul (2 ^ s)))

module _ (s nodata : ℕ) where
  cell_whole : (b : ℕ) → (T (positive (cell_value b)) → Whole s b) → Whole s (sanitised nodata b)
  cell_whole b w = go (sanitised_is nodata b)
    where
      go : (sanitised nodata b ≡ 0) ⊎ Kept (kind_of nodata b) b → Whole s (sanitised nodata b)
      go (inl z) = rw z (whole_zero s)
      go (inr k) = rw k.same (w k.above)

  row_whole : (r : List ℕ) → WholeAsLent s (row r) → Every (Whole s) (sanitised_row nodata r)
  row_whole [] w = tt
  row_whole (b ∷ r) w = (cell_whole b w.0, row_whole r w.1)

  module _ (g : Grid) where
    step_whole : (l : Ledger) (c : Call) → Every (Every (Whole s)) l.cells → WholeAsLent s c
        → Every (Every (Whole s)) (ledger_step g nodata l c).cells
    unfolding ledger_step
    step_whole l finish h w = h
    step_whole l (row r) h w = go (ledger_refusal g l (row r))
      where
        go : (n : ℕ) → Every (Every (Whole s)) (unless_refused n (entered nodata l r) l).cells
        go zero = every_and (Every (Whole s)) l.cells (sanitised_row nodata r) h (row_whole r w)
        go (suc n) = h

    pub lent_whole : (l : Ledger) (calls : List Call) → Every (Every (Whole s)) l.cells → Every (WholeAsLent s) calls
        → Every (Every (Whole s)) (ledger_after g nodata l calls).cells
    lent_whole l [] h w = h
    lent_whole l (c ∷ calls) h w = lent_whole (ledger_step g nodata l c) calls (step_whole l c h w.0) w.1
