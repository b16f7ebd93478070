-- Two series in one loop. Assumes nothing.
use mathlib.Core.Path.{◌≡◌, refl}
use mathlib.Core.Bool.{Bool, true, cond, ◌&&◌}
use Prim.Native.Nat.{ℕ, zero, suc}
use lib.Ieee.{Float, binary64, mul, eq, fits}
use Rattle.std.proofs.lemmas.Bool.{and_parts}
use Rattle.float.specs.Float.{f64zero, f64one}
use Rattle.stand_ins.specs.StandIns.{downward}
use Rattle.stand_ins.specs.declared.pairs.Pair.{Pair}

-- one turn of both
abbrev pub turns_of : (ℕ → Float → Float) → (ℕ → Float → Float) → ℕ → Pair → Pair
turns_of t u k p = record { first = t k p.first; second = u k p.second }

firsts : (t u : ℕ → Float → Float) (n : ℕ) (p : Pair) → (downward (turns_of t u) n p).first ≡ downward t n p.first
firsts t u zero p = refl
firsts t u (suc n) p = firsts t u n (turns_of t u (suc n) p)

seconds : (t u : ℕ → Float → Float) (n : ℕ) (p : Pair) → (downward (turns_of t u) n p).second ≡ downward u n p.second
seconds t u zero p = refl
seconds t u (suc n) p = seconds t u n (turns_of t u (suc n) p)

-- each of two series that run together from 1 gives what it gives alone
pub each_alone : (t u : ℕ → Float → Float) {n m : ℕ} {p : Pair} → n ≡ m →
    p ≡ downward (turns_of t u) n (record { first = f64one; second = f64one }) →
    (p.first ≡ downward t m f64one) × (p.second ≡ downward u m f64one)
each_alone t u by sum = (rw (sum, by, firsts) refl, rw (sum, by, seconds) refl)

-- the answers of both, where a few turns are enough for each at 0: `sine_turns` and `cosine_turns` of stand_ins
module _ (turn : Float → ℕ → Float → Float) (finish : Float → Float → Float) (answer : Float → Float) (few all : ℕ)
    (enough : (b : Bool) (x : Float) → fits binary64 x ≡ true → (b ≡ true → eq x f64zero ≡ true) →
    finish x (downward (turn (mul binary64 x x)) (cond b few all) f64one) ≡ answer x) where
  pub both_answers : {p : Pair} (x y : Float) → fits binary64 x ≡ true → fits binary64 y ≡ true →
      p.first ≡ downward (turn (mul binary64 x x)) (cond (eq x f64zero && eq y f64zero) few all) f64one →
      p.second ≡ downward (turn (mul binary64 y y)) (cond (eq x f64zero && eq y f64zero) few all) f64one →
      (finish x p.first ≡ answer x) × (finish y p.second ≡ answer y)
  both_answers x y h g first second =
      let zeros = eq x f64zero && eq y f64zero in (
        rw (first) (enough zeros x h (λ e. (and_parts _ _ e).0)),
        rw (second) (enough zeros y g (λ e. (and_parts _ _ e).1)),
      )
