-- The number of units of a float; a value is written in one way. Assumes nothing.
use Rattle.std.proofs.Common.{◌≡◌, ℕ, ◌+◌, ◌-◌, ◌*◌, ◌/◌, ◌^◌, ◌<◌, Bool, cond, T, sym, ap, ◌∙◌, arith}
use native.Mathlib.Nat.{div-eq_of_eq-mul_left}
use lib.Ieee.{Float, fin, inf, nan, Format, prec, low, top, hid, up, down, size, fits, to_bits, of_bits}
use lib.Ieee.Bits.{of_bits-to_bits}
use lib.Ieee.Nearest.{div_same}
use lib.Ieee.Fits.{down_pos}
use lib.Ieee.Exact.{HasValue}
use Rattle.float.specs.Units.{unit_count}

-- of a value that is n units the count is n
pub count_of : (x : Float) (sign : Bool) (n s : ℕ) → HasValue x sign n (2 ^ s) → unit_count s x ≡ n
unfolding unit_count
count_of (fin t m e) sign n s h = div-eq_of_eq-mul_left (down_pos e) h.1
count_of nan sign n s h = elim h [ ]
count_of (inf _) sign n s h = elim h [ ]

-- ---- one value is written in one way: its bit pattern is made of its sign and its size
bits_of : (f : Format) (x : Float) (s : Bool) (n c : ℕ) → 0 < c → HasValue x s n c → to_bits f x ≡ (let N =
    n * 2 ^ low f / c in cond s (top f) 0 + (size N - prec f) * hid f + N / 2 ^ (size N - prec f))
unfolding to_bits
bits_of f (fin t m e) s n c C h =
    rw (h.0, div_same (m * up e * 2 ^ low f) (down e) (n * 2 ^ low f) c (down_pos e) C (omega (arith, ap (λ (z : ℕ). z * 2 ^ low f) h.1)))
bits_of f nan s n c C h = elim h [ ]
bits_of f (inf _) s n c C h = elim h [ ]

-- a value of a format is known by its bits
pub known_by_bits : (f : Format) (x y : Float) → T (fits f x) → T (fits f y) → to_bits f x ≡ to_bits f y → x ≡ y
known_by_bits f x y fx fy e = sym (of_bits-to_bits f x fx) ∙ ap (of_bits f) e ∙ of_bits-to_bits f y fy

pub value_unique : (f : Format) (x y : Float) (s : Bool) (n c : ℕ) → 0 < c → T (fits f x) → T (fits f y) → HasValue x s n c → HasValue y s n c → x ≡ y
value_unique f x y s n c C fx fy h k = known_by_bits f x y fx fy (bits_of f x s n c C h ∙ sym (bits_of f y s n c C k))
