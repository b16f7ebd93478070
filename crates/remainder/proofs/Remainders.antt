-- Remainders of floats in whole numbers. Assumes nothing.
use mathlib.Core.Path.{◌≡◌, refl, sym, subst, ◌∙◌, ap}
use mathlib.Core.Bool.{Bool, true, false, cond, not, ◌||◌, false≢true, true≢false}
use Prim.Native.Nat.{ℕ, zero, suc, ◌+◌, ◌-◌, ◌*◌, ◌/◌, ◌%◌, ◌^◌, ◌≤◌, ◌<◌}
use native.Mathlib.Nat.{mul-pos, mul_assoc, mul_comm, mul_left_comm, mul_right_comm, mul-one, one-mul, add-zero, mul-div_cancel, mul-mod_left}
use native.Mathlib.Nat.{add-mul-mod_self_right, div-add-mod', mod-eq_of_lt, mul-lt-mul_of_pos_right, mul-le-mul, add-mul, pow-suc}
use native.Mathlib.Nat.{lt_of_lt_of_le, zero-mul, zero-lt-suc, add-sub_of_le, le_of_lt, pos_of_ne-zero, eq-or-lt_of_le, le-add_right}
use native.Mathlib.Numerals.{add-one}
use native.Mathlib.Decide.{dec_lt}
use mathlib.Core.Logic.{inl, inr}
use native.Mathlib.Omega.{arith}
use borrow.Author.Tests.{ne_eqb, lt-leb, leb-true, leb-false, ltb-true, ltb-false, eqb-true, eqb-false}
use lib.Arith.{mod-mul}
use lib.Dec.{T, eqb, leb, ltb, le→leb}
use lib.Pow.{pow_pos, pow-add, pow_mono, pow-lt, shl_lt}
use lib.IntN.{pos}
use lib.Ieee.{Float, nan, inf, fin, Format, binary64, up, down, rem, div, mul, neg, round, unlike, of_fields, of_bits, of_int, fits}
use lib.Ieee.{to_bits, in_float}
use lib.Ieee.Bits.{of_bits-to_bits}
use Rattle.remainder.specs.private.Units.{PatternUnits, signed}
use Rattle.float.proofs.Patterns.{pattern_nan}
use Rattle.float.proofs.Values.{value_unique}
use lib.Ieee.Fits.{down_pos, up_pos, round-fits}
use lib.Ieee.Exact.{HasValue, odd_sign, round_exact}
use lib.Ieee.Back.{round_whole}
use lib.Ieee.Scale.{round_same}

-- ---- whole numbers

mod_scale : (a b c : ℕ) → 0 < b → 0 < c → (a * c) % (b * c) ≡ (a % b) * c
mod_scale a b c hb hc = rw (mod-mul (a * c) hb hc, mul-div_cancel a hc, mul-mod_left a c) (add-zero ((a % b) * c))

-- a factor reduced first
pub mod_first : (a b m : ℕ) → (a % m * b) % m ≡ (a * b) % m
mod_first a b m =
    let split : a * b ≡ a % m * b + (a / m * b) * m = ap (λ (n : ℕ). n * b) (sym (div-add-mod' a m))
    ∙ simp (add-mul, mul_assoc, mul_comm, mul_left_comm) (omega arith) in
    sym (ap (λ (n : ℕ). n % m) split ∙ add-mul-mod_self_right (a % m * b) (a / m * b) m)

-- eleven doublings in one product
pub doubled_turn : (r i k m : ℕ) → i ≡ 11 + k → (r * 2048 % m * 2 ^ k) % m ≡ (r * 2 ^ i) % m
doubled_turn r i k m h =
    let e : 2048 * 2 ^ k ≡ 2 ^ i = sym (pow-add 2 11 k) ∙ ap (λ (k : ℕ). 2 ^ k) (sym h) in
    mod_first (r * 2048) (2 ^ k) m ∙ ap (λ (k : ℕ). k % m) (mul_assoc r 2048 (2 ^ k) ∙ ap (λ (k : ℕ). r * k) e)

-- so many doublings of 53 digits have room in a word
pub shifted : (r i : ℕ) → r < 2 ^ 53 → i ≤ 11 → r * 2 ^ i % 2 ^ 64 ≡ r * 2 ^ i
shifted r i h k =
    mod-eq_of_lt (lt_of_lt_of_le (mul-lt-mul_of_pos_right h (pow_pos i)) (rw (sym (pow-add 2 53 i)) (pow_mono {i = 53 + i} {j = 64} (omega arith))))

-- ---- two numbers of units

one_more : (k p j : ℕ) → k < j → 2 ^ 52 ≤ p → 2 ^ 53 * 2 ^ k ≤ p * 2 ^ j
one_more k p j h v =
    let e : 2 ^ 53 * 2 ^ k ≡ 2 ^ 52 * 2 ^ (k + 1) = rw (add-one k, pow-suc 2 k) (omega arith) in
    rw e (mul-le-mul v (pow_mono {i = k + 1} {j = j} (omega arith)))

pub less_units : (q k p j : ℕ) → k < j → q < 2 ^ 53 → 2 ^ 52 ≤ p → (q * 2 ^ k) % (p * 2 ^ j) ≡ q * 2 ^ k
less_units q k p j h u v = mod-eq_of_lt (lt_of_lt_of_le (mul-lt-mul_of_pos_right u (pow_pos k)) (one_more k p j h v))

pub more_units : (q k p j n : ℕ) → k ≡ n + j → 0 < p → (q * 2 ^ k) % (p * 2 ^ j) ≡ (q * 2 ^ n % p) * 2 ^ j
more_units q k p j n e h = rw (e, pow-add 2 n j, ← mul_assoc q (2 ^ n) (2 ^ j)) (mod_scale (q * 2 ^ n) p (2 ^ j) h (pow_pos j))

-- ---- floats by their values

nonzero : (n u c b : ℕ) → n * u * c ≡ b → 0 < b → n ≡ 0 → ⊥
nonzero zero u c b e h z = let w : 0 ≡ b = simp zero-mul at e in omega arith
nonzero (suc n) u c b e h z = omega arith

above : (n : ℕ) → (n ≡ 0 → ⊥) → 0 < n
above zero h = absurd (h refl)
above (suc n) h = zero-lt-suc n

scaled : (p q c a b d : ℕ) → 0 < q → 0 < c → 0 < b → 0 < d → p * c ≡ a * d → q * c ≡ b * d → p % q * c ≡ a % b * d
scaled p q c a b d hq hc hb hd e g = sym (mod_scale p q c hq hc) ∙ rw (e, g) (mod_scale a b d hb hd)

cross : (m u c x y z : ℕ) → m * u * c ≡ x * y → m * u * z * c ≡ x * (y * z)
cross m u c x y z e = mul_right_comm (m * u) z c ∙ ap (λ (n : ℕ). n * z) e ∙ mul_assoc x y z

rem_units : (f : Format) (x y : Float) (s t : Bool) (a b c : ℕ) → 0 < b → 0 < c → HasValue x s a c → HasValue y t b c → rem f x y ≡ round f s (a % b) c
unfolding rem
rem_units f (fin s' m e) (fin t' n d) s t a b c hb hc v w =
    let no : n ≡ 0 → ⊥ = nonzero n (up d) c (b * down d) w.1 (mul-pos hb (down_pos d)) in
    let q : 0 < n * up d * down e = mul-pos (mul-pos (above n no) (up_pos d)) (down_pos e) in
    let g : n * up d * down e * c ≡ b * (down e * down d) = cross n (up d) c b (down d) (down e) w.1 ∙ ap (λ (k : ℕ). b * k) (mul_comm (down d) (down e)) in
    rw (ne_eqb n 0 no, v.0)
    (round_same f s (m * up e * down d % (n * up d * down e)) (down e * down d) (a % b) c (mul-pos (down_pos e) (down_pos d)) hc
    (scaled (m * up e * down d) (n * up d * down e) c a b (down e * down d) q hc hb (mul-pos (down_pos e) (down_pos d))
    (cross m (up e) c a (down e) (down d) v.1) g))
rem_units f nan y s t a b c hb hc v w = elim v [ ]
rem_units f (inf _) y s t a b c hb hc v w = elim v [ ]
rem_units f (fin s' m e) nan s t a b c hb hc v w = elim w [ ]
rem_units f (fin s' m e) (inf _) s t a b c hb hc v w = elim w [ ]

unlike_false : (s : Bool) → unlike false s ≡ s
unlike_false true = refl
unlike_false false = refl

products : (x y c a b d e : ℕ) → x * 1 ≡ a * d → y * c ≡ b * e → x * y * c ≡ a * b * (d * e)
products x y c a b d e g h = mul_assoc x y c ∙ rw (h, sym (mul-one x) ∙ g) (simp (mul_assoc, mul_left_comm))

mul_units : (f : Format) (x y : Float) (s : Bool) (a b c : ℕ) → 0 < c → HasValue x false a 1 → HasValue y s b c → mul f x y ≡ round f s (a * b) c
unfolding mul
mul_units f (fin s' m e) (fin t' n d) s a b c hc v w =
    rw (v.0, w.0, unlike_false s)
    (round_same f s (m * up e * (n * up d)) (down e * down d) (a * b) c (mul-pos (down_pos e) (down_pos d)) hc
    (products (m * up e) (n * up d) c a b (down e) (down d) v.1 w.1))
mul_units f nan y s a b c hc v w = elim v [ ]
mul_units f (inf _) y s a b c hc v w = elim v [ ]
mul_units f (fin s' m e) nan s a b c hc v w = elim w [ ]
mul_units f (fin s' m e) (inf _) s a b c hc v w = elim w [ ]

pub neg_value : (y : Float) (b c : ℕ) → HasValue y false b c → HasValue (neg y) true b c
unfolding neg
neg_value (fin t m e) b c h = (ap not h.0, h.1)
neg_value nan b c h = elim h [ ]
neg_value (inf _) b c h = elim h [ ]

-- ---- a pattern's number, in units of 2 ^ -1074

low_fields : (s : Bool) (t : ℕ) → HasValue (of_fields binary64 s 0 t) s (t * 2 ^ 0) (2 ^ 1074)
unfolding of_fields
low_fields s t = odd_sign 53 s t 0 1074

high_fields : (s : Bool) (x t : ℕ) → suc x < 2047 → HasValue (of_fields binary64 s (suc x) t) s ((2 ^ 52 + t) * 2 ^ x) (2 ^ 1074)
unfolding of_fields
high_fields s x t h = rw (ne_eqb (suc x) 2047 (λ e. omega arith)) (odd_sign 53 s (2 ^ 52 + t) x 1074)

-- b without its sign is p
low_value : (b p : ℕ) → b % 2 ^ 63 ≡ p → p < 2 ^ 52 → HasValue (of_bits binary64 b) (leb (2 ^ 63) b) (p * 2 ^ 0) (2 ^ 1074)
unfolding of_bits
low_value b p e h =
    let x : b % 2 ^ 63 / 2 ^ 52 ≡ 0 = omega arith in
    let t : b % 2 ^ 52 ≡ p = omega arith in
    rw (x, t) (low_fields (leb (2 ^ 63) b) p)

high_value : (b p k : ℕ) → b % 2 ^ 63 ≡ p → p / 2 ^ 52 ≡ suc k → suc k < 2047
    → HasValue (of_bits binary64 b) (leb (2 ^ 63) b) ((2 ^ 52 + p % 2 ^ 52) * 2 ^ k) (2 ^ 1074)
unfolding of_bits
high_value b p k e g h =
    let x : b % 2 ^ 63 / 2 ^ 52 ≡ suc k = ap (λ (n : ℕ). n / 2 ^ 52) e ∙ g in
    let t : b % 2 ^ 52 ≡ p % 2 ^ 52 = omega arith in
    rw (x, t) (high_fields (leb (2 ^ 63) b) k (p % 2 ^ 52) h)

pub units_low : (p : ℕ) → p < 2 ^ 52 → PatternUnits p p 0
units_low p h = record { value = λ b e. low_value b p e h; short = omega arith; lead = λ z. omega arith; small = omega arith; some = λ s. s }

pub units_high : (p : ℕ) → 2 ^ 52 ≤ p → p < 2047 * 2 ^ 52 → PatternUnits p (2 ^ 52 + p % 2 ^ 52) (p / 2 ^ 52 - 1)
units_high p h g =
    let k = p / 2 ^ 52 - 1 in
    let e : p / 2 ^ 52 ≡ suc k = omega arith in
    record { value = λ b w. high_value b p k w e (omega arith); short = omega arith; lead = λ z. omega arith; small = omega arith; some = λ s. omega arith }

-- the smaller of two patterns is the smaller number
pub smaller_pattern : (p c : ℕ) → p < c → c < 2047 * 2 ^ 52 → (q k r j : ℕ) × PatternUnits p q k × PatternUnits c r j × (q * 2 ^ k < r * 2 ^ j)
smaller_pattern p c l h = go (dec_lt p (2 ^ 52)) (dec_lt c (2 ^ 52))
  where
    q : ℕ
    q = 2 ^ 52 + p % 2 ^ 52

    r : ℕ
    r = 2 ^ 52 + c % 2 ^ 52

    high : (k j : ℕ) → k ≡ p / 2 ^ 52 - 1 → j ≡ c / 2 ^ 52 - 1 → 2 ^ 52 ≤ p → q * 2 ^ k < r * 2 ^ j
    high k j ek ej a = elim (dec_lt k j) [
      | yes i ↦ lt_of_lt_of_le (mul-lt-mul_of_pos_right {m = q} {n = 2 ^ 53} (omega arith) (pow_pos k)) (one_more k r j i (omega arith))
      | no i ↦
          let e : k ≡ j = omega arith in
          rw e (mul-lt-mul_of_pos_right {m = q} {n = r} (omega arith) (pow_pos j))
    ]

    go : Dec (p < 2 ^ 52) → Dec (c < 2 ^ 52) → (q k r j : ℕ) × PatternUnits p q k × PatternUnits c r j × (q * 2 ^ k < r * 2 ^ j)
    go (yes a) (yes b) = (p, 0, c, 0, units_low p a, units_low c b, omega arith)
    go (yes a) (no b) =
        let j = c / 2 ^ 52 - 1 in
        let m = mul-le-mul (le-add_right (2 ^ 52) (c % 2 ^ 52)) (pow_pos j) in
        (p, 0, r, j, units_low p a, units_high c (omega arith) h, lt_of_lt_of_le (omega arith) m)
    go (no a) (yes b) = absurd (omega arith)
    go (no a) (no b) =
        (q, p / 2 ^ 52 - 1, r, c / 2 ^ 52 - 1, units_high p (omega arith) (omega arith), units_high c (omega arith) h, high _ _ refl refl (omega arith))

some_units : (p : ℕ) → p < 2047 * 2 ^ 52 → (q k : ℕ) × PatternUnits p q k
some_units p h = elim (dec_lt p (2 ^ 52)) [
  | yes l ↦ (p, 0, units_low p l)
  | no l ↦ (2 ^ 52 + p % 2 ^ 52, p / 2 ^ 52 - 1, units_high p (omega arith) h)
]

-- ---- 2 ^ k units

pub scale_low : (k r : ℕ) → k < 52 → r ≡ 1 * 2 ^ k % 2 ^ 52 → HasValue (of_bits binary64 r) false (2 ^ k) (2 ^ 1074)
scale_low k r h e =
    let b : 2 ^ k < 2 ^ 52 = pow-lt {i = k} {j = 52} h in
    let s : r ≡ 2 ^ k = e ∙ rw (one-mul (2 ^ k)) (mod-eq_of_lt b) in
    let m : r % 2 ^ 63 ≡ r = mod-eq_of_lt (omega arith) in
    let v = low_value r r m (omega arith) in
    rw (lt-leb (2 ^ 63) r (omega arith), mul-one r ∙ s) at v

pub scale_high : (k : ℕ) → 52 ≤ k → k < 2046 → HasValue (of_bits binary64 ((k - 51) * 2 ^ 52)) false (2 ^ k) (2 ^ 1074)
scale_high k h g =
    let p = (k - 51) * 2 ^ 52 in
    let m : p % 2 ^ 63 ≡ p = mod-eq_of_lt (omega arith) in
    let e : p / 2 ^ 52 ≡ suc (k - 52) = omega arith in
    let v = high_value p p (k - 52) m e (omega arith) in
    let z : 2 ^ 52 + p % 2 ^ 52 ≡ 2 ^ 52 = omega arith in
    let w : 2 ^ 52 * 2 ^ (k - 52) ≡ 2 ^ k = sym (pow-add 2 52 (k - 52)) ∙ ap (λ (n : ℕ). 2 ^ n) (add-sub_of_le h) in
    rw (lt-leb (2 ^ 63) p (omega arith), z, w) at v

-- ---- what is no number

past_fields : (f : Format) (s : Bool) (t : ℕ) (y : Float) → rem f (of_fields binary64 s 2047 t) y ≡ nan
unfolding of_fields rem
past_fields f s t y = go (eqb t 0)
  where
    go : (b : Bool) → rem f (cond b (inf s) nan) y ≡ nan
    go true = refl
    go false = refl

past_end : (b : ℕ) (y : Float) → b < 2 ^ 64 → 2047 * 2 ^ 52 ≤ b % 2 ^ 63 → rem binary64 (of_bits binary64 b) y ≡ nan
unfolding of_bits
past_end b y g h =
    let x : b % 2 ^ 63 / 2 ^ 52 ≡ 2047 = omega arith in
    rw x (past_fields binary64 (leb (2 ^ 63) b) (b % 2 ^ 52) y)

by_nan : (x : Float) → rem binary64 x nan ≡ nan
unfolding rem
by_nan nan = refl
by_nan (inf s) = refl
by_nan (fin s m e) = refl

by_inf : (x : Float) (s t : Bool) (a c : ℕ) → HasValue x s a c → rem binary64 x (inf t) ≡ x
unfolding rem
by_inf (fin s' m e) s t a c v = refl
by_inf nan s t a c v = elim v [ ]
by_inf (inf _) s t a c v = elim v [ ]

at_end : (x : Float) (s : Bool) (a c b : ℕ) → HasValue x s a c → b % 2 ^ 63 ≡ 2047 * 2 ^ 52 → rem binary64 x (of_bits binary64 b) ≡ x
unfolding of_bits of_fields
at_end x s a c b v e =
    let f : b % 2 ^ 63 / 2 ^ 52 ≡ 2047 = omega arith in
    let t : b % 2 ^ 52 ≡ 0 = omega arith in
    rw (f, t) (by_inf x s (leb (2 ^ 63) b) a c v)

by_zero : (x y : Float) (t : Bool) (c : ℕ) → 0 < c → HasValue y t 0 c → rem binary64 x y ≡ nan
unfolding rem
by_zero nan y t c hc w = refl
by_zero (inf s) y t c hc w = refl
by_zero (fin s m e) (fin t' zero d) t c hc w = refl
by_zero (fin s m e) (fin t' (suc n) d) t c hc w =
    let h : 0 < suc n * up d * c = mul-pos (mul-pos (zero-lt-suc n) (up_pos d)) hc in
    absurd (omega (arith, w.1, zero-mul (down d)))
by_zero (fin s m e) nan t c hc w = elim w [ ]
by_zero (fin s m e) (inf _) t c hc w = elim w [ ]

-- ---- n units as a float: q times the value of 2 ^ k units

pub product : (q k : ℕ) (s : Bool) (v : Float) → q < 2 ^ 53 → HasValue v s (2 ^ k) (2 ^ 1074) → mul binary64 (of_int binary64 (pos q)) v ≡ signed s (q * 2 ^ k)
unfolding of_int signed
product q k s v h w = mul_units binary64 (round binary64 false q 1) v s q (2 ^ k) (2 ^ 1074) (pow_pos 1074) (round_whole binary64 false q (le_of_lt h)) w

-- a float is that of its units
again : (x : Float) (s : Bool) (q k : ℕ) → T (fits binary64 x) → q < 2 ^ 53 → k < 2046 → HasValue x s (q * 2 ^ k) (2 ^ 1074) → x ≡ signed s (q * 2 ^ k)
unfolding signed
again x s q k h l n v =
    let small : q * 2 ^ k < 2 ^ 2098 = lt_of_lt_of_le (shl_lt 53 k l) (pow_mono {i = 53 + k} {j = 2098} (omega arith)) in
    value_unique binary64 x (round binary64 s (q * 2 ^ k) (2 ^ 1074)) s (q * 2 ^ k) (2 ^ 1074) (pow_pos 1074) h
    (round-fits binary64 s (q * 2 ^ k) (2 ^ 1074)) v
    (round_exact binary64 s (q * 2 ^ k) (2 ^ 1074) q k (pow_pos 1074) l small refl)

-- ---- one law for each way out of `rem`; b and c are the patterns of x and m

pub zero_by_zero : div binary64 (of_bits binary64 0) (of_bits binary64 0) ≡ nan
unfolding div of_bits
zero_by_zero = refl

pub both_numbers : (b c : ℕ) → leb (2047 * 2 ^ 52) (b % 2 ^ 63) || ltb (2047 * 2 ^ 52) (c % 2 ^ 63) || eqb (c % 2 ^ 63) 0 ≡ false
    → (b % 2 ^ 63 < 2047 * 2 ^ 52) × (c % 2 ^ 63 ≤ 2047 * 2 ^ 52) × (0 < c % 2 ^ 63)
both_numbers b c = go (leb (2047 * 2 ^ 52) p) (ltb (2047 * 2 ^ 52) q) (eqb q 0) refl refl refl
  where
    p : ℕ
    p = b % 2 ^ 63

    q : ℕ
    q = c % 2 ^ 63

    go : (i j k : Bool) → leb (2047 * 2 ^ 52) p ≡ i → ltb (2047 * 2 ^ 52) q ≡ j → eqb q 0 ≡ k → i || j || k ≡ false
        → (p < 2047 * 2 ^ 52) × (q ≤ 2047 * 2 ^ 52) × (0 < q)
    go true j k ei ej ek t = absurd (true≢false t)
    go false true k ei ej ek t = absurd (true≢false t)
    go false false true ei ej ek t = absurd (true≢false t)
    go false false false ei ej ek t = (leb-false (2047 * 2 ^ 52) p ei, ltb-false (2047 * 2 ^ 52) q ej, pos_of_ne-zero (eqb-false q 0 ek))

module _ (x m : Float) (b c : ℕ) (hx : T (fits binary64 x)) (hm : T (fits binary64 m)) (ex : b ≡ to_bits binary64 x) (em : c ≡ to_bits binary64 m) where
  same_bits : (y : Float) (d : ℕ) → T (fits binary64 y) → d ≡ to_bits binary64 y → of_bits binary64 d ≡ y
  same_bits y d h e = ap (of_bits binary64) e ∙ of_bits-to_bits binary64 y h

  pub no_number : (i j k : Bool) → leb (2047 * 2 ^ 52) (b % 2 ^ 63) ≡ i → ltb (2047 * 2 ^ 52) (c % 2 ^ 63) ≡ j → eqb (c % 2 ^ 63) 0 ≡ k
      → b < 2 ^ 64 → i || j || k ≡ true → nan ≡ rem binary64 x m
  no_number true j k ei ej ek g t = sym (rw (same_bits x b hx ex) at (past_end b m g (leb-true (2047 * 2 ^ 52) (b % 2 ^ 63) ei)))
  no_number false true k ei ej ek g t =
      let none = pattern_nan binary64 c (ltb-true (2047 * 2 ^ 52) (c % 2 ^ 63) ej) in
      sym (subst (λ (y : Float). rem binary64 x y ≡ nan) (sym none ∙ same_bits m c hm em) (by_nan x))
  no_number false false true ei ej ek g t =
      sym (by_zero x m (leb (2 ^ 63) c) (2 ^ 1074) (pow_pos 1074) (rw (same_bits m c hm em) at (low_value c 0 (eqb-true (c % 2 ^ 63) 0 ek) (omega arith))))
  no_number false false false ei ej ek g t = absurd (false≢true t)

  value_of : (y : Float) (d q k : ℕ) → T (fits binary64 y) → d ≡ to_bits binary64 y → PatternUnits (d % 2 ^ 63) q k
      → HasValue y (leb (2 ^ 63) d) (q * 2 ^ k) (2 ^ 1074)
  value_of y d q k h e s = rw (same_bits y d h e) at (s.value d refl)

  infinite_m : (q k : ℕ) → PatternUnits (b % 2 ^ 63) q k → c % 2 ^ 63 ≡ 2047 * 2 ^ 52 → x ≡ rem binary64 x m
  infinite_m q k s h = sym (rw (same_bits m c hm em) at (at_end x (leb (2 ^ 63) b) (q * 2 ^ k) (2 ^ 1074) c (value_of x b q k hx ex s) h))

  pub both_finite : (q k p j n : ℕ) → PatternUnits (b % 2 ^ 63) q k → PatternUnits (c % 2 ^ 63) p j → 0 < c % 2 ^ 63 → n ≡ (q * 2 ^ k) % (p * 2 ^ j)
      → signed (leb (2 ^ 63) b) n ≡ rem binary64 x m
  unfolding signed
  both_finite q k p j n s t z e =
      let some = mul-pos (t.some z) (pow_pos j) in
      rw e
      (sym (rem_units binary64 x m (leb (2 ^ 63) b) (leb (2 ^ 63) c) (q * 2 ^ k) (p * 2 ^ j) (2 ^ 1074) some (pow_pos 1074)
      (value_of x b q k hx ex s) (value_of m c p j hm em t)))

  -- of a smaller x nothing is taken
  pub within_m : b % 2 ^ 63 < c % 2 ^ 63 → c % 2 ^ 63 ≤ 2047 * 2 ^ 52 → x ≡ rem binary64 x m
  within_m l h = elim (eq-or-lt_of_le h) [
    | inl e ↦ let (q, k, u) = some_units (b % 2 ^ 63) (omega arith) in infinite_m q k u e
    | inr g ↦
        let (q, k, r, j, u, v, o) = smaller_pattern (b % 2 ^ 63) (c % 2 ^ 63) l g in
        again x (leb (2 ^ 63) b) q k hx u.short u.small (value_of x b q k hx ex u)
        ∙ both_finite q k r j (q * 2 ^ k) u v (omega arith) (sym (mod-eq_of_lt o))
  ]

pub in_float_lem : (n : ℕ) → n ≤ 2 ^ 53 → T (in_float binary64 (pos n))
unfolding in_float
in_float_lem n h = le→leb n (2 ^ 53) h
