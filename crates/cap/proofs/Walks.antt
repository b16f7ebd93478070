-- Document 01's rule for the walk over a row's columns, for any test p of a number, and for a cap's. Assumes nothing.
use mathlib.Core.Path.{◌≡◌, refl, sym}
use mathlib.Core.Bool.{Bool, true, false}
use mathlib.Core.Logic.{◌⊎◌, inl, inr}
use Prim.Native.Nat.{ℕ, zero, suc, ◌+◌, ◌-◌, ◌≤◌, min}
use native.Mathlib.Nat.{min-le_right}
use native.Mathlib.Omega.{arith}
use lib.Ieee.{Float}
use Rattle.cap.specs.Walks.{climb, descend, climbed, descended, walked, Stopped}
use Rattle.cap.specs.Cap.{closing, contained, estimated, half_width}
use Rattle.cap.specs.declared.Cap.{Cap}

-- the next column is out, or there is none
abbrev Out : (ℕ → Bool) → ℕ → ℕ → Type 0
Out p closing h = (h ≡ closing) ⊎ (p (suc h) ≡ false)

climb_rule : (p : ℕ → Bool) (closing n : ℕ) (b : Bool) (h : ℕ) → n + h ≡ closing → b ≡ p (suc h) → Out p closing (climb p n b h) × (climb p n b h ≤ closing)
climb_rule p closing zero b h l e = (inl (omega arith), omega arith)
climb_rule p closing (suc n) false h l e = (inr (sym e), omega arith)
climb_rule p closing (suc n) true h l e = climb_rule p closing n (p (suc (suc h))) (suc h) (omega arith) refl

descend_rule : (p : ℕ → Bool) (closing : ℕ) (b : Bool) (h : ℕ) → b ≡ p h → Out p closing h → h ≤ closing → Stopped p closing (descend p b h)
descend_rule p closing b zero e o l = record { in_or_none = inl refl; next_out = o; closed = omega arith }
descend_rule p closing true (suc h) e o l = record { in_or_none = inr (sym e); next_out = o; closed = l }
descend_rule p closing false (suc h) e o l = descend_rule p closing (p h) h refl (inr (sym e)) (omega arith)

-- wherever it starts, the walk stops by the rule
pub walk_rule : (p : ℕ → Bool) (closing start : ℕ) → start ≤ closing → Stopped p closing (walked p closing start)
unfolding walked climbed descended
walk_rule p closing start l =
    let h = climb p (closing - start) (p (suc start)) start in
    let o = climb_rule p closing (closing - start) (p (suc start)) start (omega arith) refl in
    descend_rule p closing (p h) h refl o.0 o.1

-- the walk from the estimate stops by the rule: h is 0 or column h is contained, and h is closing or column h + 1 isn't
pub half_width_rule : (cap : Cap) (lat : Float) → Stopped (contained cap lat) (closing cap.width) (half_width cap lat)
unfolding half_width
half_width_rule cap lat =
    let c = closing cap.width in
    walk_rule (contained cap lat) c (min (estimated cap lat) c) (min-le_right (estimated cap lat) c)
