-- Decimal and hex digits, one by one, and how many there are. Assumes nothing.
use Rattle.std.proofs.Common.{◌≡◌, ℕ, zero, suc, ◌+◌, ◌-◌, ◌/◌, ◌%◌, ◌^◌, ◌<◌, ◌≤◌, Bool, true, false, ◌&&◌, ltb, List, [], ◌∷◌, ◌++◌, length, sym, refl, ap, pow-suc, add-one, sub-one, arith, length-append, ltb-false, ltb-true, le-ltb, lt-ltb}
use Rattle.std.proofs.lemmas.Bool.{and_parts}
use Rattle.std.proofs.Math.Nat.{div-le_self, div-lt_self}
use Rattle.digits.specs.Digits.{decimal, decimal_by, hex_digit, hex_digits}

two_fuels : (f g n : ℕ) (b : Bool) → b ≡ ltb n 10 → n ≤ f → n ≤ g → decimal_by f b n ≡ decimal_by g b n
two_fuels zero zero n b e hf hg = refl
two_fuels zero (suc g) n true e hf hg = refl
two_fuels zero (suc g) n false e hf hg = let h : 10 ≤ n = ltb-false _ _ (sym e) in absurd (omega arith)
two_fuels (suc f) zero n true e hf hg = refl
two_fuels (suc f) zero n false e hf hg = let h : 10 ≤ n = ltb-false _ _ (sym e) in absurd (omega arith)
two_fuels (suc f) (suc g) n true e hf hg = refl
two_fuels (suc f) (suc g) n false e hf hg =
    let h : 10 ≤ n = ltb-false _ _ (sym e) in
    ap (λ (l : List ℕ). l ++ ((48 + n % 10) ∷ [])) (two_fuels f g (n / 10) (ltb (n / 10) 10) refl (omega arith) (omega arith))

pub decimal_one : (n : ℕ) → n < 10 → decimal n ≡ (48 + n) ∷ []
unfolding decimal
decimal_one zero h = refl
decimal_one (suc n) h = rw (lt-ltb (suc n) 10 h)

pub decimal_more : (n : ℕ) → 10 ≤ n → decimal n ≡ decimal (n / 10) ++ ((48 + n % 10) ∷ [])
unfolding decimal
decimal_more zero h = absurd (omega arith)
decimal_more (suc n) h =
    rw (le-ltb (suc n) 10 h)
    (ap (λ (l : List ℕ). l ++ ((48 + suc n % 10) ∷ [])) (two_fuels n (suc n / 10) (suc n / 10) (ltb (suc n / 10) 10) refl (omega arith) (omega arith)))

short : (k n : ℕ) (b : Bool) → ltb n 10 ≡ b → n < 10 ^ suc k → length (decimal n) ≤ suc k
short zero n true e h = rw (decimal_one n (ltb-true _ _ e)) (omega arith)
short zero n false e h = let z : 10 ≤ n = ltb-false _ _ e in absurd (omega arith)
short (suc k) n true e h = rw (decimal_one n (ltb-true _ _ e)) (omega arith)
short (suc k) n false e h =
    let s : n / 10 < 10 ^ suc k = omega (arith, pow-suc 10 (suc k)) in
    let r : length (decimal (n / 10)) ≤ suc k = short k (n / 10) (ltb (n / 10) 10) refl s in
    rw (decimal_more n (ltb-false _ _ e), length-append (decimal (n / 10))) (omega arith)

-- a number below 10 ^ k has at most k digits, or one
pub decimal_length : (k n : ℕ) → n < 10 ^ suc k → length (decimal n) ≤ suc k
decimal_length k n h = short k n (ltb n 10) refl h

pub hex_length : (k n : ℕ) → length (hex_digits k n) ≡ k
hex_length zero n = refl
hex_length (suc k) n = rw (length-append (hex_digits k (n / 16)), hex_length k (n / 16)) (add-one k)

pub hex_more : (k n : ℕ) → (k ≡ 0 → ⊥) → hex_digits k n ≡ hex_digits (k - 1) (n / 16) ++ (hex_digit (n % 16) ∷ [])
hex_more zero n h = absurd (h refl)
hex_more (suc k) n h = rw (sub-one (suc k))

-- ---- the digits in a base, at least so many: one alone, or those before the last and the last

pub one_left : (n base least : ℕ) → ltb n base && ltb least 2 ≡ true → (n < base) × (least < 2)
one_left n base least e = let p = and_parts (ltb n base) (ltb least 2) e in (ltb-true _ _ p.0, ltb-true _ _ p.1)

pub more_left : (n base least : ℕ) → ltb n base && ltb least 2 ≡ false → n < base → 2 ≤ least
more_left n base least e h = let f : ltb least 2 ≡ false = rw (lt-ltb n base h) at e in ltb-false _ _ f

pub fewer_left : (n base least : ℕ) → 1 < base → (n < base → 2 ≤ least) → n / base + (least - 1) < n + least
fewer_left zero base least p h = omega (arith, div-le_self zero base, h (omega arith))
fewer_left (suc n) base least p h = omega (arith, div-lt_self {n = suc n} {k = base} (omega arith) p)

many : (n base least : ℕ) (b : Bool) → ltb n base ≡ b → (n < base → 2 ≤ least) → least ≤ 1 → base ≤ n
many n base least true e m h = let two = m (ltb-true _ _ e) in omega arith
many n base least false e m h = ltb-false _ _ e

hex_digit_small : (d : ℕ) → d < 10 → hex_digit d ≡ 48 + d
hex_digit_small d h = rw (lt-ltb d 10 h)

pub decimal_first : (n : ℕ) → n < 10 → decimal n ≡ hex_digit n ∷ []
decimal_first n h = rw (decimal_one n h, hex_digit_small n h)

pub decimal_last : (n base least : ℕ) → base ≡ 10 → (n < base → 2 ≤ least) → least ≤ 1
    → decimal n ≡ decimal (n / base) ++ (hex_digit (n % base) ∷ [])
decimal_last n base least e m h =
    rw (e, decimal_more n (rw (← e) (many n base least (ltb n base) refl m h)), hex_digit_small (n % 10) (omega arith))

pub hex_last : (least n base : ℕ) → base ≡ 16 → 0 < least → hex_digits least n ≡ hex_digits (least - 1) (n / base) ++ (hex_digit (n % base) ∷ [])
hex_last least n base e h = rw (e, hex_more least n (λ z. omega (arith, z)))

-- the digits before the last, of a number that has at most so many
pub hex_before : (least n base : ℕ) → base ≡ 16 → n < 16 ^ least → (n < base → 2 ≤ least) → 0 < least
    → (0 < least - 1) × (n / base < 16 ^ (least - 1))
hex_before zero n base e h m p = absurd (omega arith)
hex_before (suc zero) n base e h m p = absurd (omega arith)
hex_before (suc (suc k)) n base e h m p =
    rw (sub-one (suc (suc k)), e) (omega arith, omega (arith, pow-suc 16 (suc k)))
