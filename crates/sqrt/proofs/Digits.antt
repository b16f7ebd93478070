-- The root digit by digit: the square of the root so far and the remainder are the digits that came down, and `rest` holds those that are left.
-- Assumes nothing.
use Rattle.std.proofs.Common.{◌≡◌, ℕ, zero, suc, ◌+◌, ◌-◌, ◌*◌, ◌/◌, ◌%◌, ◌^◌, ◌<◌, ◌≤◌, ◌⊎◌, sym, ap, ◌∙◌, subst, inl, inr, lt_of_lt_of_le, mul_assoc, eq-zero-or-pos, mul-div_cancel, mul_left_comm, add-one, arith, pow_pos, pow_mono}
use native.Mathlib.Nat.{pow-succ'}
use Rattle.sqrt.specs.private.Steps.{Closest}
use Rattle.sqrt.proofs.Squares.{square_twice, square_next, square_product, square_middle}

pub record Down (v rest root rem i : ℕ) : Type 0 where
  pub sum : (root * root + rem) * 2 ^ 64 + rest ≡ v * 4 ^ i
  pub left : rem ≤ 2 * root
  pub small : root < 2 ^ i
  pub short : i ≤ 54 → root < 2 ^ 59
  pub word : rest < 2 ^ 64

-- within the loop the root is short of 60 digits
in_word : {root i : ℕ} → root < 2 ^ i → i ≤ 54 → root < 2 ^ 59
in_word {i = i} small h = lt_of_lt_of_le small (pow_mono {i = i} {j = 59} (omega arith))

-- one turn: four times as much has come down
module _ (v rest root rem i : ℕ) (d : Down v rest root rem i) where
  four : v * 4 ^ (i + 1) ≡ 4 * (v * 4 ^ i)
  four = rw (add-one i, pow-succ' 4 i) (mul_left_comm v 4 (4 ^ i))

  double : 2 ^ (i + 1) ≡ 2 * 2 ^ i
  double = rw add-one (pow-succ' 2 i)

  pub one_digit : root * 4 + 1 ≤ rem * 4 + rest / 2 ^ 62 → Down v (rest * 4 % 2 ^ 64) (root * 2 + 1) (rem * 4 + rest / 2 ^ 62 - (root * 4 + 1)) (i + 1)
  one_digit h =
      let small : root * 2 + 1 < 2 ^ (i + 1) = omega (arith, double, d.small) in
      record {
        sum = omega (arith, four, square_twice root, square_next (root * 2));
        left = omega arith;
        small = small;
        short = in_word small;
        word = omega arith;
      }

  pub zero_digit : rem * 4 + rest / 2 ^ 62 < root * 4 + 1 → Down v (rest * 4 % 2 ^ 64) (root * 2) (rem * 4 + rest / 2 ^ 62) (i + 1)
  zero_digit h =
      let small : root * 2 < 2 ^ (i + 1) = omega (arith, double, d.small) in
      record {
        sum = omega (arith, four, square_twice root);
        left = omega arith;
        small = small;
        short = in_word small;
        word = omega arith;
      }

-- ---- after 54 turns: the root of four times the number, so that half of it, rounded up, is the closest
turns : (v : ℕ) → v * 4 ^ 54 / 2 ^ 64 ≡ v * 2 ^ 44
turns v = ap (λ (x : ℕ). x / 2 ^ 64) (sym (mul_assoc v (2 ^ 44) (2 ^ 64))) ∙ mul-div_cancel (v * 2 ^ 44) (pow_pos 64)

pub done : (v rest root rem i : ℕ) → Down v rest root rem i → i ≡ 54 → (root * root + rem ≡ v * 2 ^ 44) × (root < 2 ^ 54)
done v rest root rem i d e =
    let s : root * root + rem ≡ v * 4 ^ i / 2 ^ 64 = omega (arith, d.sum, d.word) in
    (s ∙ ap (λ (x : ℕ). v * 4 ^ x / 2 ^ 64) e ∙ turns v, subst (λ (x : ℕ). root < 2 ^ x) e d.small)

pub four_times_lem : (v : ℕ) → v * 2 ^ 44 ≡ 4 * (v * 2 ^ 42)
four_times_lem v = omega arith

even : (n c r : ℕ) → 0 < n → 2 * c * (2 * c) + r ≡ 4 * n → r ≤ 2 * (2 * c) → Closest n c
even n zero r p e l = absurd (omega arith)
even n (suc c) r p e l = record { over = omega (arith, square_product 2 (suc c)); under = omega (arith, square_product 2 (suc c)) }

odd : (n c r : ℕ) → (2 * c + 1) * (2 * c + 1) + r ≡ 4 * n → r ≤ 2 * (2 * c + 1) → Closest n (c + 1)
odd n c r e l = record { over = omega (arith, square_middle c, square_next c); under = omega (arith, square_middle c, square_next c) }

pub halved : (n q r : ℕ) → 0 < n → q * q + r ≡ 4 * n → r ≤ 2 * q → Closest n ((q + 1) / 2)
halved n q r p e l = go (eq-zero-or-pos (q % 2))
  where
    go : (q % 2 ≡ 0) ⊎ (0 < q % 2) → Closest n ((q + 1) / 2)
    go (inl z) =
        let is : q ≡ 2 * (q / 2) = omega arith in
        let half : q / 2 ≡ (q + 1) / 2 = omega arith in
        subst (Closest n) half (even n (q / 2) r p (subst (λ (x : ℕ). x * x + r ≡ 4 * n) is e) (omega arith))
    go (inr o) =
        let is : q ≡ 2 * (q / 2) + 1 = omega arith in
        let half : q / 2 + 1 ≡ (q + 1) / 2 = omega arith in
        subst (Closest n) half (odd n (q / 2) r (subst (λ (x : ℕ). x * x + r ≡ 4 * n) is e) (omega arith))
