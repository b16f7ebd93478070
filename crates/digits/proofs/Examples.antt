-- A table of numbers, by their bits, and how each is shown; one theorem covers it. Assumes nothing.
use Rattle.std.proofs.Common.{◌≡◌, ℕ, List, [], ◌∷◌, map, refl}
use lib.Ieee.{Float, binary64, of_bits, to_bits, to_unsigned, lt, le, eq, rem}
use Rattle.digits.specs.Digits.{decimal, is_count, shown}

abbrev numbers : List Float
numbers =
    of_bits binary64 0x7ff8_0000_0000_0000
    ∷ of_bits binary64 0x4340_0000_0000_0000
    ∷ of_bits binary64 0x4340_0000_0000_0001
    ∷ of_bits binary64 0x433f_ffff_ffff_ffff
    ∷ of_bits binary64 0x0
    ∷ of_bits binary64 0x8000_0000_0000_0000
    ∷ of_bits binary64 0x3ff0_0000_0000_0000
    ∷ of_bits binary64 0xbff0_0000_0000_0000
    ∷ of_bits binary64 0x402e_0000_0000_0000
    ∷ of_bits binary64 0x3fe0_0000_0000_0000
    ∷ of_bits binary64 0x4059_2000_0000_0000
    ∷ of_bits binary64 0x7ff0_0000_0000_0000
    ∷ of_bits binary64 0xfff0_0000_0000_0000
    ∷ of_bits binary64 0x1
    ∷ []

abbrev texts : List (List ℕ)
texts =
    -- nan: bits 7FF8000000000000
    (98 ∷ 105 ∷ 116 ∷ 115 ∷ 32 ∷ 55 ∷ 70 ∷ 70 ∷ 56 ∷ 48 ∷ 48 ∷ 48 ∷ 48 ∷ 48 ∷ 48 ∷ 48 ∷ 48 ∷ 48 ∷ 48 ∷ 48 ∷ 48 ∷ [])
    -- 2 ^ 53: 9007199254740992
    ∷ (57 ∷ 48 ∷ 48 ∷ 55 ∷ 49 ∷ 57 ∷ 57 ∷ 50 ∷ 53 ∷ 52 ∷ 55 ∷ 52 ∷ 48 ∷ 57 ∷ 57 ∷ 50 ∷ [])
    -- 2 ^ 53 + 2: bits 4340000000000001
    ∷ (98 ∷ 105 ∷ 116 ∷ 115 ∷ 32 ∷ 52 ∷ 51 ∷ 52 ∷ 48 ∷ 48 ∷ 48 ∷ 48 ∷ 48 ∷ 48 ∷ 48 ∷ 48 ∷ 48 ∷ 48 ∷ 48 ∷ 48 ∷ 49 ∷ [])
    -- 2 ^ 53 - 1: 9007199254740991
    ∷ (57 ∷ 48 ∷ 48 ∷ 55 ∷ 49 ∷ 57 ∷ 57 ∷ 50 ∷ 53 ∷ 52 ∷ 55 ∷ 52 ∷ 48 ∷ 57 ∷ 57 ∷ 49 ∷ [])
    -- 0: 0
    ∷ (48 ∷ [])
    -- -0: 0
    ∷ (48 ∷ [])
    -- 1: 1
    ∷ (49 ∷ [])
    -- -1: bits BFF0000000000000
    ∷ (98 ∷ 105 ∷ 116 ∷ 115 ∷ 32 ∷ 66 ∷ 70 ∷ 70 ∷ 48 ∷ 48 ∷ 48 ∷ 48 ∷ 48 ∷ 48 ∷ 48 ∷ 48 ∷ 48 ∷ 48 ∷ 48 ∷ 48 ∷ 48 ∷ [])
    -- 15: 15
    ∷ (49 ∷ 53 ∷ [])
    -- 0.5: bits 3FE0000000000000
    ∷ (98 ∷ 105 ∷ 116 ∷ 115 ∷ 32 ∷ 51 ∷ 70 ∷ 69 ∷ 48 ∷ 48 ∷ 48 ∷ 48 ∷ 48 ∷ 48 ∷ 48 ∷ 48 ∷ 48 ∷ 48 ∷ 48 ∷ 48 ∷ 48 ∷ [])
    -- 100.5: bits 4059200000000000
    ∷ (98 ∷ 105 ∷ 116 ∷ 115 ∷ 32 ∷ 52 ∷ 48 ∷ 53 ∷ 57 ∷ 50 ∷ 48 ∷ 48 ∷ 48 ∷ 48 ∷ 48 ∷ 48 ∷ 48 ∷ 48 ∷ 48 ∷ 48 ∷ 48 ∷ [])
    -- infinity: bits 7FF0000000000000
    ∷ (98 ∷ 105 ∷ 116 ∷ 115 ∷ 32 ∷ 55 ∷ 70 ∷ 70 ∷ 48 ∷ 48 ∷ 48 ∷ 48 ∷ 48 ∷ 48 ∷ 48 ∷ 48 ∷ 48 ∷ 48 ∷ 48 ∷ 48 ∷ 48 ∷ [])
    -- -infinity: bits FFF0000000000000
    ∷ (98 ∷ 105 ∷ 116 ∷ 115 ∷ 32 ∷ 70 ∷ 70 ∷ 70 ∷ 48 ∷ 48 ∷ 48 ∷ 48 ∷ 48 ∷ 48 ∷ 48 ∷ 48 ∷ 48 ∷ 48 ∷ 48 ∷ 48 ∷ 48 ∷ [])
    -- 2 ^ -1074: bits 0000000000000001
    ∷ (98 ∷ 105 ∷ 116 ∷ 115 ∷ 32 ∷ 48 ∷ 48 ∷ 48 ∷ 48 ∷ 48 ∷ 48 ∷ 48 ∷ 48 ∷ 48 ∷ 48 ∷ 48 ∷ 48 ∷ 48 ∷ 48 ∷ 48 ∷ 49 ∷ [])
    ∷ []

pub shown_as : map shown numbers ≡ texts
unfolding shown is_count decimal of_bits to_bits to_unsigned lt le eq rem
shown_as = refl
