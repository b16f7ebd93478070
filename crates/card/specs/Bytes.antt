-- Document 02, C-17: cards that differ in one range of bytes alone. The laws of proofs/Sections are stated by these.
use Rattle.std.specs.Prelude.{List, ◌≡◌, ℕ, length, get_or}
use Rattle.sections.specs.declared.ByteRange.{ByteRange}
use Rattle.sections.specs.Sections.{In}

-- two cards have the same bytes in a range
abbrev pub SameIn : ByteRange → List ℕ → List ℕ → Type 0
SameIn r c d = (i : ℕ) → In r i → get_or c i 0 ≡ get_or d i 0

-- two cards are equally long, and have the same bytes outside a range
pub record SameOutside (r : ByteRange) (c d : List ℕ) : Type 0 where
  pub size : length c ≡ length d
  pub bytes : (i : ℕ) → (In r i → ⊥) → get_or c i 0 ≡ get_or d i 0
