-- Document 01, 'The card', and document 02, C-17: where a card's sections may stand.
use Rattle.std.specs.Prelude.{Bool, not, ◌&&◌, ◌||◌, ℕ, ◌≤◌, ◌<◌, leb}
use Rattle.refusal.specs.Refusal.{first, passed, card_ends_early, sections_overlap}
use Rattle.sections.specs.declared.ByteRange.{ByteRange}

-- offset plus length is at most the file's length
abbrev pub inside : ℕ → ByteRange → Bool
inside len r = leb r.end len

-- a range with no bytes
abbrev pub has_no_bytes : ByteRange → Bool
has_no_bytes r = leb r.end r.start

-- document 02, C-17: two byte ranges are disjoint. An empty one overlaps nothing; of two others one ends before the other starts, or just there
abbrev pub disjoint : ByteRange → ByteRange → Bool
disjoint a b = has_no_bytes a || has_no_bytes b || leb a.end b.start || leb b.end a.start

-- the header: bytes 0 to 63
abbrev pub header_bytes : ByteRange
header_bytes = record { start = 0; end = 64 }

-- document 02, C-17: header, rows and circles are disjoint byte ranges
abbrev pub sections_apart : ByteRange → ByteRange → Bool
sections_apart rows circles = disjoint header_bytes rows && disjoint header_bytes circles && disjoint rows circles

-- 25 (sections), 32, of a card of so many bytes
abbrev pub section_refusal : ℕ → ByteRange → ByteRange → ℕ
section_refusal len rows circles =
    first (not (inside len rows && inside len circles)) card_ends_early (first (not (sections_apart rows circles)) sections_overlap passed)

-- byte i is one of a range
abbrev pub In : ByteRange → ℕ → Type 0
In r i = (r.start ≤ i) × (i < r.end)

-- no byte is in both
abbrev pub Apart : ByteRange → ByteRange → Type 0
Apart a b = (i : ℕ) → In a i → In b i → ⊥
