-- The sweep of a row: what is done and what is left, where it ends, and the lengths that it keeps. Assumes nothing.
use mathlib.Core.Path.{◌≡◌, refl, ap}
use mathlib.Core.List.{List, [], ◌∷◌, ◌++◌}
use Prim.Native.Nat.{ℕ, suc, ◌+◌, ◌-◌, ◌≤◌, min}
use native.Mathlib.Omega.{arith}
use lib.ListN.{length, take, drop, length-append, length-drop, length-map, take-append-drop}
use lib.Ieee.{Float}
use Rattle.raster.specs.Raster.{cell_value, sanitised_row}
use Rattle.sweep.specs.declared.Carry.{Carry}
use Rattle.sweep.specs.Sweep.{taken_in, swept_acc, swept_corr, acc_after, corr_after}

-- the columns below j as they are, and the rest as the sweep of the cells from i on, sanitised, leaves it
abbrev pub from_acc : ℕ → Carry → List ℕ → List Float → List Float → ℕ → ℕ → List Float
from_acc nodata s row acc corr i j = take j acc ++ swept_acc s.prefix.sum s.prefix.dropped (sanitised_row nodata (drop i row)) (drop j acc) (drop j corr)

abbrev pub from_corr : ℕ → Carry → List ℕ → List Float → List Float → ℕ → ℕ → List Float
from_corr nodata s row acc corr i j = take j corr ++ swept_corr s.prefix.sum s.prefix.dropped (sanitised_row nodata (drop i row)) (drop j acc) (drop j corr)

-- a sweep of no cells, or of no columns, leaves everything
module _ (prefix rest : Float) where
  none_acc : (row : List ℕ) (acc corr : List Float) → min (length row) (min (length acc) (length corr)) ≡ 0 → swept_acc prefix rest row acc corr ≡ acc
  none_acc [] acc corr e = refl
  none_acc (x ∷ row) [] corr e = refl
  none_acc (x ∷ row) (a ∷ acc) [] e = refl
  none_acc (x ∷ row) (a ∷ acc) (c ∷ corr) e = absurd (omega arith)

  none_corr : (row : List ℕ) (acc corr : List Float) → min (length row) (min (length acc) (length corr)) ≡ 0 → swept_corr prefix rest row acc corr ≡ corr
  none_corr [] acc corr e = refl
  none_corr (x ∷ row) [] corr e = refl
  none_corr (x ∷ row) (a ∷ acc) [] e = refl
  none_corr (x ∷ row) (a ∷ acc) (c ∷ corr) e = absurd (omega arith)

-- the sweep ends where the row or the columns do
module _ (nodata : ℕ) (s : Carry) (row : List ℕ) (acc corr : List Float) (i : ℕ) (r : min (length row) (min (length acc) (length corr) - 1) ≤ i) where
  none_left : min (length (sanitised_row nodata (drop i row))) (min (length (drop (i + 1) acc)) (length (drop (i + 1) corr))) ≡ 0
  none_left = simp (length-map, length-drop) (omega arith)

  pub end_acc : from_acc nodata s row acc corr i (i + 1) ≡ acc
  end_acc = rw (none_acc s.prefix.sum s.prefix.dropped (sanitised_row nodata (drop i row)) (drop (i + 1) acc) (drop (i + 1) corr) none_left, take-append-drop)

  pub end_corr : from_corr nodata s row acc corr i (i + 1) ≡ corr
  end_corr = rw (none_corr s.prefix.sum s.prefix.dropped (sanitised_row nodata (drop i row)) (drop (i + 1) acc) (drop (i + 1) corr) none_left, take-append-drop)

-- ---- lengths

length_swept_acc : (prefix rest : Float) (row : List ℕ) (acc corr : List Float) → length (swept_acc prefix rest row acc corr) ≡ length acc
length_swept_acc prefix rest [] acc corr = refl
length_swept_acc prefix rest (x ∷ row) [] corr = refl
length_swept_acc prefix rest (x ∷ row) (a ∷ acc) [] = refl
length_swept_acc prefix rest (x ∷ row) (a ∷ acc) (c ∷ corr) =
    let p = taken_in prefix rest (cell_value x) in
    ap suc (length_swept_acc p.sum p.dropped row acc corr)

length_swept_corr : (prefix rest : Float) (row : List ℕ) (acc corr : List Float) → length (swept_corr prefix rest row acc corr) ≡ length corr
length_swept_corr prefix rest [] acc corr = refl
length_swept_corr prefix rest (x ∷ row) [] corr = refl
length_swept_corr prefix rest (x ∷ row) (a ∷ acc) [] = refl
length_swept_corr prefix rest (x ∷ row) (a ∷ acc) (c ∷ corr) =
    let p = taken_in prefix rest (cell_value x) in
    ap suc (length_swept_corr p.sum p.dropped row acc corr)

pub length_acc_after : (row : List ℕ) (acc corr : List Float) → length (acc_after row acc corr) ≡ length acc
unfolding acc_after
length_acc_after row acc corr = rw (length-append, length_swept_acc, ← length-append, take-append-drop)

pub length_corr_after : (row : List ℕ) (acc corr : List Float) → length (corr_after row acc corr) ≡ length corr
unfolding corr_after
length_corr_after row acc corr = rw (length-append, length_swept_corr, ← length-append, take-append-drop)
