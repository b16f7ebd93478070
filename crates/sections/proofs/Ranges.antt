-- Document 02, C-17: `disjoint` is what the word means. Assumes nothing.
use mathlib.Core.Path.{◌≡◌, refl}
use mathlib.Core.Bool.{Bool, true, false, false≢true}
use Prim.Native.Nat.{ℕ, ◌<◌}
use native.Mathlib.Nat.{le_refl}
use native.Mathlib.Omega.{arith}
use borrow.Author.Tests.{leb-true, leb-false, lt-leb}
use lib.Dec.{leb}
use Rattle.std.proofs.lemmas.Bool.{and_parts, or_parts}
use Rattle.sections.specs.declared.ByteRange.{ByteRange}
use Rattle.sections.specs.Sections.{has_no_bytes, disjoint, header_bytes, sections_apart, In, Apart}

module _ (a b : ByteRange) where
  -- disjoint ranges have no byte in common, and ranges that are not disjoint have one
  pub disjoint_apart : disjoint a b ≡ true → Apart a b
  disjoint_apart e i p q =
      let f : false ≡ true = rw (
        lt-leb a.end a.start (omega (arith, p)),
        lt-leb b.end b.start (omega (arith, q)),
        lt-leb a.end b.start (omega (arith, p, q)),
        lt-leb b.end a.start (omega (arith, p, q)),
      ) at e in
      false≢true f

  pub overlap_shared : disjoint a b ≡ false → (i : ℕ) × In a i × In b i
  overlap_shared e =
      let p = or_parts _ (leb b.end a.start) e in
      let q = or_parts _ (leb a.end b.start) p.0 in
      let r = or_parts (has_no_bytes a) (has_no_bytes b) q.0 in
      later (leb a.start b.start) refl (leb-false _ _ r.0) (leb-false _ _ r.1) (leb-false _ _ q.1) (leb-false _ _ p.1)
    where
      -- the later start
      later : (t : Bool) → leb a.start b.start ≡ t → a.start < a.end → b.start < b.end → b.start < a.end → a.start < b.end
          → (i : ℕ) × In a i × In b i
      later true l p q r s = (b.start, (leb-true _ _ l, r), (le_refl _, q))
      later false l p q r s = (a.start, (le_refl _, p), (omega (arith, leb-false a.start b.start l), s))

-- no byte belongs to two of header, rows and circles
pub none_shared : (rows circles : ByteRange) → sections_apart rows circles ≡ true
    → Apart header_bytes rows × Apart header_bytes circles × Apart rows circles
none_shared rows circles e =
    let p = and_parts _ (disjoint rows circles) e in
    let q = and_parts (disjoint header_bytes rows) (disjoint header_bytes circles) p.0 in
    (disjoint_apart _ _ q.0, disjoint_apart _ _ q.1, disjoint_apart _ _ p.1)
