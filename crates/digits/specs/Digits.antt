-- Document 01, 'The card': how `count` shows a number, as a list of ASCII bytes.
use Rattle.std.specs.Prelude.{ℕ, zero, suc, ◌+◌, ◌/◌, ◌%◌, Bool, true, false, cond, ◌&&◌, List, [], ◌∷◌, ◌++◌, from_bits, nat_lt, to_bits, Float}
use Rattle.std.specs.Float.{binary64}
use Rattle.std.specs.Float.Ieee.{rem, le, eq, to_unsigned}
use Rattle.float.specs.Float.{f64zero, f64one}

-- ---- a number in decimal

-- n by its digits, b saying whether n has one digit only; `most` is enough steps
abbrev pub decimal_by : ℕ → Bool → ℕ → List ℕ
decimal_by zero b n = (48 + n) ∷ []
decimal_by (suc most) true n = (48 + n) ∷ []
decimal_by (suc most) false n = decimal_by most (nat_lt (n / 10) 10) (n / 10) ++ ((48 + n % 10) ∷ [])

-- `0` to `9`, the most significant digit first and never a `0` in front of another
unfoldable pub decimal : ℕ → List ℕ
decimal n = decimal_by n (nat_lt n 10) n

-- ---- bits as 16 upper-case hex digits

-- `0` to `9`, `A` to `F`
abbrev pub hex_digit : ℕ → ℕ
hex_digit d = cond (nat_lt d 10) (48 + d) (55 + d)

-- the last k hex digits of n
abbrev pub hex_digits : ℕ → ℕ → List ℕ
hex_digits zero n = []
hex_digits (suc k) n = hex_digits k (n / 16) ++ (hex_digit (n % 16) ∷ [])

-- ---- bytes and words

abbrev pub space : List ℕ
space = 32 ∷ []

abbrev pub newline : List ℕ
newline = 10 ∷ []

-- `bits `
abbrev pub bits_word : List ℕ
bits_word = 98 ∷ 105 ∷ 116 ∷ 115 ∷ 32 ∷ []

-- ---- a number of people

-- 9007199254740992.0, 2 ^ 53
abbrev pub f64p53 : Float
f64p53 = from_bits binary64 0x4340_0000_0000_0000

-- whole in 0 to 2 ^ 53: the remainder by 1 is 0
unfoldable pub is_count : Float → Bool
is_count x = le f64zero x && le x f64p53 && eq (rem binary64 x f64one) f64zero

-- a count that is whole in 0 to 2 ^ 53 in decimal, every other as `bits`, a space and 16 upper-case hex digits
unfoldable pub shown : Float → List ℕ
unfolding decimal is_count
shown x = cond (is_count x) (decimal (to_unsigned 64 x)) (bits_word ++ hex_digits 16 (to_bits binary64 x))
