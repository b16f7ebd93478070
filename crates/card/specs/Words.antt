-- Document 01, 'The card': little-endian words. A card is the list of its bytes.
use Rattle.std.specs.Prelude.{List, [], ◌∷◌, ℕ, zero, suc, ◌+◌, ◌*◌, take, drop, Float}
use Rattle.std.specs.Float.{binary64}
use Rattle.std.specs.Float.Ieee.{of_bits}

-- the number that bytes stand for, the least significant first
abbrev pub little_endian : List ℕ → ℕ
little_endian [] = 0
little_endian (b ∷ bs) = b + 256 * little_endian bs

-- the u32, and the f64, at a place
unfoldable pub u32_at : List ℕ → ℕ → ℕ
u32_at card at = little_endian (take 4 (drop at card))

unfoldable pub u64_at : List ℕ → ℕ → ℕ
u64_at card at = little_endian (take 8 (drop at card))

abbrev pub f64_at : List ℕ → ℕ → Float
f64_at card at = of_bits binary64 (u64_at card at)

-- n words of 32 bits from a place on
abbrev pub words_at : List ℕ → ℕ → ℕ → List ℕ
words_at card at zero = []
words_at card at (suc n) = u32_at card at ∷ words_at card (at + 4) n
