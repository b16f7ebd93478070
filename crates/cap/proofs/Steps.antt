-- A turn and the ends of each loop, and the test for a NaN. Assumes nothing.
use mathlib.Core.Path.{◌≡◌, refl}
use mathlib.Core.Bool.{Bool, true, false}
use Prim.Native.Nat.{ℕ, zero, suc, ◌+◌, ◌-◌, ◌≤◌, ◌<◌}
use native.Mathlib.Numerals.{add-one}
use native.Mathlib.Omega.{arith}
use borrow.Author.Tests.{eq-eqb}
use lib.Ieee.{Float, nan, inf, fin, eq, ne, is_nan}
use Rattle.cap.specs.Walks.{climb, climbed, descended}

module _ (p : ℕ → Bool) (last h : ℕ) where
  pub climb_turn : h < last → p (h + 1) ≡ true → climbed p last (h + 1) ≡ climbed p last h
  unfolding climbed
  climb_turn l e =
      let n : last - h ≡ suc (last - suc h) = omega arith in
      rw (n, ← add-one h, e, add-one h)

  pub climb_out : p (h + 1) ≡ false → h ≡ climbed p last h
  unfolding climbed
  climb_out e = rw (← add-one h, e) (stays (last - h))
    where
      stays : (n : ℕ) → h ≡ climb p n false h
      stays zero = refl
      stays (suc n) = refl

  pub climb_end : last ≤ h → h ≡ climbed p last h
  unfolding climbed
  climb_end l =
      let n : last - h ≡ 0 = omega arith in
      rw n

module _ (p : ℕ → Bool) where
  pub descend_turn : (h : ℕ) → 0 < h → p h ≡ false → descended p (h - 1) ≡ descended p h
  unfolding descended
  descend_turn zero l e = absurd (omega arith)
  descend_turn (suc h) l e =
      let n : suc h - 1 ≡ h = omega arith in
      rw (n, e)

  pub descend_in : (h : ℕ) → p h ≡ true → h ≡ descended p h
  unfolding descended
  descend_in zero e = refl
  descend_in (suc h) e = rw e

  pub descend_end : (h : ℕ) → h ≡ 0 → h ≡ descended p h
  unfolding descended
  descend_end h e = rw e

-- only a NaN differs from itself
pub nan_differs : (x : Float) → is_nan x ≡ ne x x
unfolding is_nan ne eq
nan_differs nan = refl
nan_differs (inf true) = refl
nan_differs (inf false) = refl
nan_differs (fin true m e) = rw (eq-eqb _ _ refl)
nan_differs (fin false m e) = rw (eq-eqb _ _ refl)
