-- A count is above -1 and below 2 ^ 64. Assumes nothing.
use Rattle.std.proofs.Common.{◌≡◌, ℕ, ◌+◌, ◌*◌, ◌<◌, ◌≤◌, Bool, true, false, ◌&&◌, ◌||◌, T, ◌++◌, eqb, ltb, pos, sym, refl, subst, arith, ltb-true, lt-ltb, eqb-true}
use Rattle.std.proofs.lemmas.Bool.{and_parts, false_from_ne_true, false≢true}
use lib.Ieee.{Float, nan, inf, fin, binary64, up, down, lt, le, eq, rem, of_bits, to_bits, to_unsigned}
use lib.Ieee.Fits.{down_pos}
use Rattle.float.specs.Float.{f64zero, f64one}
use Rattle.digits.specs.Digits.{f64p53, decimal, hex_digits, bits_word, is_count, shown}

holds : (a b : ℕ) → a < b → T (ltb a b)
holds a b h = subst T (sym (lt-ltb a b h)) tt

same : (a b : ℕ) (e q : Bool) → eqb a b ≡ e → (e && q) ≡ true → a ≡ b
same a b true q r h = eqb-true a b r
same a b false q r h = absurd (false≢true h)

at_most : (a b : ℕ) (l q : Bool) → ltb a b ≡ l → (l || (eqb a b && q)) ≡ true → a ≤ b
at_most a b true q p h = omega (arith, ltb-true a b p)
at_most a b false q p h = omega (arith, same a b (eqb a b) q refl h)

below_zero : (a d : ℕ) → 0 < d → 0 * d ≡ a * 1 → a * 1 < 1 * d
below_zero a d p e = omega arith

above : (x : Float) → le f64zero x ≡ true → T (lt (fin true 1 (pos 0)) x)
unfolding of_bits le lt eq
above nan h = absurd (false≢true h)
above (inf true) h = absurd (false≢true h)
above (inf false) h = tt
above (fin true m e) h = holds _ _ (below_zero (m * up e) (down e) (down_pos e) (same _ _ (eqb (0 * down e) (m * up e * 1)) _ refl h))
above (fin false m e) h = holds _ _ (more (m * up e) (down e) (down_pos e))
  where
    more : (a d : ℕ) → 0 < d → 0 < 1 * 1 * d + a * 1
    more a d p = omega arith

under : (x : Float) → le x f64p53 ≡ true → T (lt x (fin false 1 (pos 64)))
unfolding of_bits le lt eq
under nan h = absurd (false≢true h)
under (inf true) h = tt
under (inf false) h = absurd (false≢true h)
under (fin true m e) h = holds _ _ (more (m * up e) (down e) (down_pos e))
  where
    more : (a d : ℕ) → 0 < d → 0 < a * 1 + 1 * 18446744073709551616 * d
    more a d p = omega arith
under (fin false m e) h = holds _ _ (less (m * up e) (down e) (down_pos e) (at_most _ _ (ltb (m * up e * 1) (1 * 9007199254740992 * down e)) _ refl h))
  where
    less : (a d : ℕ) → 0 < d → a * 1 ≤ 1 * 9007199254740992 * d → a * 1 < 1 * 18446744073709551616 * d
    less a d p l = omega arith

pub count_fits : (x : Float) → is_count x ≡ true → T (lt (fin true 1 (pos 0)) x) × T (lt x (fin false 1 (pos 64)))
unfolding is_count
count_fits x h =
    let p = and_parts _ (eq (rem binary64 x f64one) f64zero) h in
    let q = and_parts (le f64zero x) (le x f64p53) p.0 in
    (above x q.0, under x q.1)

pub count_above : (x : Float) → is_count x ≡ true → T (lt (fin true 1 (pos 0)) x)
count_above x h = (count_fits x h).0

pub count_below : (x : Float) → is_count x ≡ true → T (lt x (fin false 1 (pos 64)))
count_below x h = (count_fits x h).1

-- how a number is shown, by whether it is a count
pub shown_count : (x : Float) → is_count x ≡ true → shown x ≡ decimal (to_unsigned 64 x)
unfolding shown
shown_count x h = rw h

pub shown_bits : (x : Float) → (is_count x ≡ true → ⊥) → shown x ≡ bits_word ++ hex_digits 16 (to_bits binary64 x)
unfolding shown
shown_bits x h = rw (false_from_ne_true (is_count x) h)
