-- How many turns are enough: at 0, of either sign, a few give what all give. Assumes nothing.
use mathlib.Core.Path.{◌≡◌, refl, sym, subst}
use mathlib.Core.Bool.{Bool, true, false, cond}
use Prim.Native.Nat.{ℕ, ◌+◌, ◌-◌, ◌*◌}
use lib.Dec.{T}
use lib.IntN.{pos}
use lib.Ieee.{Float, fin, binary64, add, sub, mul, div, eq, fits, of_int, of_bits, size, odd}
use Rattle.float.specs.Float.{f64zero, f64one, f64four, f64of}
use Rattle.float.specs.Units.{unit_count}
use Rattle.float.proofs.Signs.{by_zeros}
use Rattle.sqrt.specs.Sqrt.{root_units, isqrt, root_in}
use Rattle.stand_ins.specs.StandIns.{downward, sine_term, sin_of, cosine_term, cos_of, arctan_term, arctan_series, halved, arctan_of}

abbrev signed_zero : Bool → Float
signed_zero s = fin s 0 (pos 0)

-- the sine and the cosine by n turns, and A(t) by the reciprocal for n and n turns
abbrev sine_by : ℕ → Float → Float
sine_by n x = mul binary64 x (downward (sine_term (mul binary64 x x)) n f64one)

abbrev cosine_by : ℕ → Float → Float
cosine_by n x = downward (cosine_term (mul binary64 x x)) n f64one

abbrev series_by : ℕ → Float → Float
series_by n w = arctan_term w 0 (downward (arctan_term w) (n - 1) (div binary64 f64one (f64of (2 * n + 1))))

abbrev arctan_by : ℕ → Float → Float
arctan_by n t =
    let u = halved (halved t) in
    mul binary64 f64four (mul binary64 u (series_by n (mul binary64 u u)))

-- at a zero, by computation
sine_zero : (s : Bool) → sine_by 2 (signed_zero s) ≡ sine_by 10 (signed_zero s)
unfolding sine_term sub mul div of_int of_bits
sine_zero false = refl
sine_zero true = refl

cosine_zero : (s : Bool) → cosine_by 1 (signed_zero s) ≡ cosine_by 15 (signed_zero s)
unfolding cosine_term sub mul div of_int of_bits
cosine_zero false = refl
cosine_zero true = refl

halved_zero : (s : Bool) → halved (signed_zero s) ≡ signed_zero s
unfolding halved add mul div root_units isqrt root_in size odd unit_count of_bits
halved_zero false = refl
halved_zero true = refl

square_zero : (s : Bool) → mul binary64 (signed_zero s) (signed_zero s) ≡ f64zero
unfolding mul of_bits
square_zero false = refl
square_zero true = refl

series_few : series_by 2 f64zero ≡ f64one
unfolding arctan_term sub mul div of_int of_bits
series_few = refl

series_all : series_by 10 f64zero ≡ f64one
unfolding arctan_term sub mul div of_int of_bits
series_all = refl

arctan_zero : (s : Bool) → arctan_by 2 (signed_zero s) ≡ arctan_by 10 (signed_zero s)
arctan_zero s = simp (halved_zero s, square_zero s, series_few, series_all)

-- .. and so wherever x equals 0. b says whether a few are taken, and they are at 0 alone
module _ (b : Bool) (x : Float) (h : fits binary64 x ≡ true) (at_zero : b ≡ true → eq x f64zero ≡ true) where
  enough : (F : ℕ → Float → Float) (few all : ℕ) → ((s : Bool) → F few (signed_zero s) ≡ F all (signed_zero s)) → F (cond b few all) x ≡ F all x
  unfolding of_bits
  enough F few all same = go b at_zero
    where
      go : (b : Bool) → (b ≡ true → eq x (signed_zero false) ≡ true) → F (cond b few all) x ≡ F all x
      go false z = refl
      go true z = by_zeros (λ y. F few y ≡ F all y) same x (subst T (sym h) tt) (z refl)

  pub sine_turns : sine_by (cond b 2 10) x ≡ sin_of x
  unfolding sin_of
  sine_turns = enough sine_by 2 10 sine_zero

  pub cosine_turns : cosine_by (cond b 1 15) x ≡ cos_of x
  unfolding cos_of
  cosine_turns = enough cosine_by 1 15 cosine_zero

  pub arctan_turns : arctan_by (cond b 2 10) x ≡ arctan_of x
  unfolding arctan_of arctan_series of_int of_bits
  arctan_turns = enough arctan_by 2 10 arctan_zero
