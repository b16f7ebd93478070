-- A cell's kind by its bits as a whole number: without the sign, 0 is a zero, above the infinity's is a NaN, and the rest is the sign's.
-- Assumes nothing.
use mathlib.Core.Path.{◌≡◌, refl, sym, ap, ◌∙◌}
use mathlib.Core.Bool.{Bool, true, false, not, cond, ◌||◌, false≢true}
use mathlib.Core.Logic.{◌⊎◌, inl, inr}
use Prim.Native.Nat.{ℕ, zero, suc, ◌+◌, ◌*◌, ◌/◌, ◌%◌, ◌^◌, ◌<◌, ◌≤◌}
use native.Mathlib.Nat.{zero-mul, mul-pos, zero-div}
use native.Mathlib.Omega.{arith}
use borrow.Author.Tests.{lt-ltb, le-ltb, le-leb, lt-leb, ltb-true, ltb-false, eqb-true, eqb-false}
use lib.Dec.{eqb, leb, ltb}
use lib.IntN.{ℤ, pos}
use lib.Ieee.{Float, nan, inf, fin, Format, binary32, hid, ones, lt, eq, is_nan, odd, of_fields, of_bits, to_bits, size, up, down}
use lib.Ieee.Bits.{nan_bits_is, to_bits-of_bits}
use lib.Ieee.Fits.{up_pos}
use Rattle.std.proofs.lemmas.Bool.{or_parts}
use Rattle.float.specs.Float.{f64zero}
use Rattle.float.proofs.Patterns.{pattern_number, pattern_nan}
use Rattle.raster.specs.Raster.{cell_value}

zero_is : f64zero ≡ fin false 0 (pos 0)
unfolding of_bits
zero_is = refl

-- ---- the sign is the bits' first

-- a value's sign, and s for the NaN
abbrev sign_or : Bool → Float → Bool
sign_or s nan = s
sign_or s (inf t) = t
sign_or s (fin t m e) = t

sign_odd : (d : ℕ) (s : Bool) (q k l : ℕ) → sign_or s (odd d s q k l) ≡ s
unfolding odd
sign_odd d s zero k l = refl
sign_odd d s (suc q) k l = refl

sign_cond : (b : Bool) (s : Bool) (x y : Float) → sign_or s x ≡ s → sign_or s y ≡ s → sign_or s (cond b x y) ≡ s
sign_cond true s x y ex ey = ex
sign_cond false s x y ex ey = ey

sign_fields : (f : Format) (s : Bool) (x t : ℕ) → sign_or s (of_fields f s x t) ≡ s
unfolding of_fields
sign_fields f s zero t = sign_odd _ s t 0 _
sign_fields f s (suc x) t =
    sign_cond (eqb (suc x) (ones f)) s _ _ (sign_cond (eqb t 0) s (inf s) nan refl refl) (sign_odd _ s (hid f + t) x _)

sign_bits : (b : ℕ) → sign_or (leb 0x8000_0000 b) (of_bits binary32 b) ≡ leb 0x8000_0000 b
unfolding of_bits
sign_bits b = sign_fields binary32 (leb 0x8000_0000 b) (b % 0x8000_0000 / 0x80_0000) (b % 0x80_0000)

-- ---- +infinity has one pattern

pub unbounded : (b : ℕ) → b ≡ 0x7f80_0000 → eq (cell_value b) (inf false) ≡ true
unfolding eq of_bits
unbounded b e = rw e

pub bounded : (b : ℕ) → b < 2 ^ 32 → (b ≡ 0x7f80_0000 → ⊥) → eq (cell_value b) (inf false) ≡ false
unfolding eq is_nan to_bits
bounded b h other = go (cell_value b) refl
  where
    infinite : cell_value b ≡ inf false → b ≡ 0x7f80_0000
    infinite e = sym (to_bits-of_bits binary32 b (omega arith) (rw e tt)) ∙ ap (to_bits binary32) e

    go : (x : Float) → cell_value b ≡ x → eq x (inf false) ≡ false
    go nan e = refl
    go (inf true) e = refl
    go (inf false) e = absurd (other (infinite e))
    go (fin s m k) e = refl

-- ---- a zero and a NaN are neither below 0 nor above it

abbrev Neither : Float → Type 0
Neither x = (lt x f64zero ≡ false) × (lt f64zero x ≡ false)

neither_nan : Neither nan
unfolding lt of_bits
neither_nan = (refl, refl)

neither_zero : Neither (of_bits binary32 0)
unfolding lt of_bits
neither_zero = (refl, refl)

neither_minus : Neither (of_bits binary32 0x8000_0000)
unfolding lt of_bits
neither_minus = (refl, refl)

two_zeros : (b : ℕ) → b < 2 ^ 32 → b % 0x8000_0000 ≡ 0 → (b ≡ 0) ⊎ (b ≡ 0x8000_0000)
two_zeros b h e = go (b / 0x8000_0000) refl
  where
    go : (q : ℕ) → b / 0x8000_0000 ≡ q → (b ≡ 0) ⊎ (b ≡ 0x8000_0000)
    go zero w = inl (omega arith)
    go (suc zero) w = inr (omega arith)
    go (suc (suc q)) w = absurd (omega arith)

-- the pattern of a zero or a NaN, without the sign
abbrev zero_or_nan : ℕ → Bool
zero_or_nan size = eqb size 0 || ltb 0x7f80_0000 size

pub neither : (b : ℕ) → b < 2 ^ 32 → zero_or_nan (b % 0x8000_0000) ≡ true → Neither (cell_value b)
neither b h = go (eqb (b % 0x8000_0000) 0) refl
  where
    at : (b ≡ 0) ⊎ (b ≡ 0x8000_0000) → Neither (cell_value b)
    at (inl w) = rw w neither_zero
    at (inr w) = rw w neither_minus

    go : (z : Bool) → eqb (b % 0x8000_0000) 0 ≡ z → z || ltb 0x7f80_0000 (b % 0x8000_0000) ≡ true → Neither (cell_value b)
    go true w e = at (two_zeros b h (eqb-true (b % 0x8000_0000) 0 w))
    go false w e = rw (pattern_nan binary32 b (ltb-true 0x7f80_0000 (b % 0x8000_0000) e)) neither_nan

-- ---- any other number is below 0 or above it, by its sign

bits_of_zero : (s : Bool) (e : ℤ) → to_bits binary32 (fin s 0 e) % 0x8000_0000 ≡ 0
unfolding to_bits size
bits_of_zero true e = rw (zero-mul (up e), zero-div (down e))
bits_of_zero false e = rw (zero-mul (up e), zero-div (down e))

-- what is not 0 is below 0 or above it
abbrev Sided : Float → Bool → Type 0
Sided x s = (lt x (fin false 0 (pos 0)) ≡ s) × (lt (fin false 0 (pos 0)) x ≡ not s)

sided_inf : (s : Bool) → Sided (inf s) s
unfolding lt
sided_inf s = (refl, refl)

pos_times : (m : ℕ) (e : ℤ) → 0 < suc m * up e
pos_times m e = mul-pos (omega arith) (up_pos e)

sided_fin : (s : Bool) (m : ℕ) (e : ℤ) → Sided (fin s (suc m) e) s
unfolding lt
sided_fin true m e = (lt-ltb 0 (suc m * up e * 1 + 0 * 1 * down e) (omega (arith, pos_times m e)), refl)
sided_fin false m e = (
  le-ltb (suc m * up e * 1) (0 * 1 * down e) (omega (arith, zero-mul (down e))),
  lt-ltb (0 * 1 * down e) (suc m * up e * 1) (omega (arith, pos_times m e, zero-mul (down e))),
)

module _ (b : ℕ) (h : b < 2 ^ 32) (test : zero_or_nan (b % 0x8000_0000) ≡ false) where
  some : b % 0x8000_0000 ≡ 0 → ⊥
  some = eqb-false (b % 0x8000_0000) 0 (or_parts (eqb (b % 0x8000_0000) 0) _ test).0

  few : b % 0x8000_0000 ≤ 0x7f80_0000
  few = ltb-false 0x7f80_0000 (b % 0x8000_0000) (or_parts (eqb (b % 0x8000_0000) 0) _ test).1

  no_nan : is_nan (of_bits binary32 b) ≡ false
  no_nan = sym (nan_bits_is binary32 b) ∙ pattern_number binary32 b few

  same : to_bits binary32 (of_bits binary32 b) ≡ b
  same = to_bits-of_bits binary32 b (omega arith) (rw no_nan tt)

  sided : Sided (cell_value b) (leb 0x8000_0000 b)
  unfolding is_nan
  sided = go (cell_value b) refl
    where
      sign : (x : Float) → cell_value b ≡ x → sign_or (leb 0x8000_0000 b) x ≡ leb 0x8000_0000 b
      sign x e = rw (← e) (sign_bits b)

      go : (x : Float) → cell_value b ≡ x → Sided x (leb 0x8000_0000 b)
      go nan e = absurd (false≢true (sym no_nan ∙ ap is_nan e))
      go (inf s) e = rw (← sign (inf s) e) (sided_inf s)
      go (fin s zero k) e =
          absurd (some (ap (λ n. n % 0x8000_0000) (sym same ∙ ap (to_bits binary32) e) ∙ bits_of_zero s k))
      go (fin s (suc m) k) e = rw (← sign (fin s (suc m) k) e) (sided_fin s m k)

  -- the sign adds 0x8000_0000 to the pattern
  pub negative : b % 0x8000_0000 < b → lt (cell_value b) f64zero ≡ true
  negative l = rw zero_is (sided.0 ∙ le-leb 0x8000_0000 b (omega arith))

  pub populated : b ≤ b % 0x8000_0000 → (lt (cell_value b) f64zero ≡ false) × (lt f64zero (cell_value b) ≡ true)
  populated l =
      let e : leb 0x8000_0000 b ≡ false = lt-leb 0x8000_0000 b (omega arith) in
      rw zero_is (sided.0 ∙ e, sided.1 ∙ ap not e)

-- what the code's match asks for
pub ruleset kinds = (unbounded, bounded, neither, negative, populated)
