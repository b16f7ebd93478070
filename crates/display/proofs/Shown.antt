-- A number of units of 2 ^ -s, up to 2 ^ 53, is shown in decimal where it is whole people and as its bits where it is not. Assumes nothing.
use mathlib.Core.Path.{◌≡◌, refl, ap, ◌∙◌}
use mathlib.Core.Bool.{Bool, true, false, cond}
use mathlib.Core.List.{List, [], ◌∷◌, ◌++◌}
use Prim.Native.Nat.{ℕ, ◌*◌, ◌/◌, ◌%◌, ◌^◌, ◌≤◌, ◌<◌}
use native.Mathlib.Nat.{mul-one, one-mul, sub-zero, lt_of_le_of_lt, le_trans, le-mul_of_pos_right, div-one, mod-one, mod-le, div-le_self, div-add-mod'}
use native.Mathlib.Omega.{arith}
use borrow.Author.Tests.{le-leb, eqb-true}
use lib.Dec.{eqb, lit<, le→leb}
use lib.Pow.{pow_pos}
use lib.Ieee.{Float, fin, binary64, up, down, rem, round, le, eq, of_bits, to_bits, to_unsigned, in_float}
use lib.Ieee.Fits.{down_pos}
use lib.Ieee.Nearest.{div_same}
use lib.Ieee.Scale.{round_same}
use lib.Ieee.Back.{unsigned_back}
use Rattle.float.specs.Float.{f64zero, f64one}
use Rattle.exact.specs.Units.{f64units, Exactly}
use Rattle.exact.proofs.Units.{units_value, units_le, units_whole, units_zero, finer}
use Rattle.exact.proofs.Sums.{le_is, eq_is}
use Rattle.digits.specs.Digits.{f64p53, decimal, hex_digits, bits_word, is_count, shown}
use Rattle.display.specs.Display.{units_shown}

-- what is left of a fraction a / b when its whole part is taken off is what is left of c / d, where the two are equal
rest_same : (a b c d : ℕ) → 0 < b → 0 < d → a * d ≡ c * b → a % b * d ≡ c % d * b
rest_same a b c d B D e =
    let q : a / b ≡ c / d = div_same a b c d B D e in
    let x = ap (λ (z : ℕ). z * d) (div-add-mod' a b) in
    let y = ap (λ (z : ℕ). z * b) (div-add-mod' c d) in
    omega (arith, ap (λ (z : ℕ). z * b * d) q, x, y, e)

-- 2 ^ 53 as a float
most : Exactly 0 (2 ^ 53) f64p53
unfolding of_bits
most = (refl, refl)

module _ (s : ℕ) (S : s ≤ 1074) (n : ℕ) (small : n ≤ 2 ^ 53) where
  -- divided by 1, n units leave what is past the whole people
  rest_is : (y : Float) → Exactly s n y → rem binary64 y f64one ≡ f64units s (n % 2 ^ s)
  unfolding rem of_bits f64units
  rest_is (fin t m e) v =
      rw (v.0, mul-one (m * up e), mul-one (down e), one-mul (down e))
      (round_same binary64 false (m * up e % down e) (down e) (n % 2 ^ s) (2 ^ s) (down_pos e) (pow_pos s)
      (rest_same (m * up e) (down e) n (2 ^ s) (down_pos e) (pow_pos s) v.1))
  rest_is lib.Ieee.nan v = elim v [ ]
  rest_is (lib.Ieee.inf _) v = elim v [ ]

  -- one notion of whole: what is whole people by the ledger, the display takes for a count
  units_count : is_count (f64units s n) ≡ eqb (n % 2 ^ s) 0
  unfolding is_count
  units_count =
      let v = units_value s S n small in
      let r : n % 2 ^ s ≤ 2 ^ 53 = le_trans (mod-le n (2 ^ s)) small in
      let low : le f64zero (f64units s n) ≡ true = rw (← units_zero s) (units_le s S 0 n (omega arith) small ∙ le-leb 0 n (omega arith)) in
      let high : le (f64units s n) f64p53 ≡ true =
      le_is (f64units s n) f64p53 n (2 ^ 53 * 2 ^ s) (2 ^ s) (pow_pos s) v (rw (sub-zero s) at (finer 0 s (2 ^ 53) f64p53 (omega arith) most))
      ∙ le-leb n (2 ^ 53 * 2 ^ s) (le_trans small (le-mul_of_pos_right (2 ^ 53) (pow_pos s))) in
      let none : eq (f64units s (n % 2 ^ s)) f64zero ≡ eqb (n % 2 ^ s) 0 =
      rw (← units_zero s) (eq_is (f64units s (n % 2 ^ s)) (f64units s 0) (n % 2 ^ s) 0 (2 ^ s) (pow_pos s) (units_value s S (n % 2 ^ s) r)
      (units_value s S 0 (omega arith))) in
      rw (low, high, rest_is (f64units s n) v, none)

  -- whole people are their number
  units_people : n % 2 ^ s ≡ 0 → to_unsigned 64 (f64units s n) ≡ n / 2 ^ s
  unfolding f64units in_float
  units_people e =
      let p : n ≡ n / 2 ^ s * 2 ^ s = omega (arith, div-add-mod' n (2 ^ s), e) in
      let q : n / 2 ^ s ≤ 2 ^ 53 = le_trans (div-le_self n (2 ^ s)) small in
      ap (to_unsigned 64) (round_same binary64 false n (2 ^ s) (n / 2 ^ s) 1 (pow_pos s) (omega arith) (omega (arith, p)) ∙ units_whole (n / 2 ^ s))
      ∙ (unsigned_back binary64 64 (n / 2 ^ s) (le→leb (n / 2 ^ s) (2 ^ 53) q) (lt_of_le_of_lt q (lit< tt))).1

  pub shown_units : shown (f64units s n) ≡ units_shown s n
  unfolding shown units_shown
  shown_units = rw units_count (go (eqb (n % 2 ^ s) 0) refl)
    where
      bits : List ℕ
      bits = bits_word ++ hex_digits 16 (to_bits binary64 (f64units s n))

      go : (b : Bool) → eqb (n % 2 ^ s) 0 ≡ b → cond b (decimal (to_unsigned 64 (f64units s n))) bits ≡ cond b (decimal (n / 2 ^ s)) bits
      go true e = ap decimal (units_people (eqb-true (n % 2 ^ s) 0 e))
      go false e = refl

-- whole people, the scale 0, are always in decimal
pub people_shown : (n : ℕ) → units_shown 0 n ≡ decimal n
unfolding units_shown
people_shown n = rw (mod-one n, div-one n)

-- 24 eighths are 3, and 141 are bits 4031A00000000000: 17.625
three : units_shown 3 24 ≡ 51 ∷ []
unfolding units_shown decimal
three = refl

seventeen : units_shown 3 141
    ≡ bits_word ++ (52 ∷ 48 ∷ 51 ∷ 49 ∷ 65 ∷ 48 ∷ 48 ∷ 48 ∷ 48 ∷ 48 ∷ 48 ∷ 48 ∷ 48 ∷ 48 ∷ 48 ∷ 48 ∷ [])
unfolding units_shown f64units round to_bits
seventeen = refl
