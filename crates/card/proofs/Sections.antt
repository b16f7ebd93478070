-- Document 02, C-17: header, rows and circles of an accepted card share no byte, and each is read from its own bytes alone. Assumes nothing.
use mathlib.Core.Path.{◌≡◌, refl, sym, subst, ◌∙◌}
use mathlib.Core.List.{List}
use Prim.Native.Nat.{ℕ, zero, suc, ◌+◌, ◌*◌, ◌≤◌, ◌<◌}
use native.Mathlib.Nat.{mul_comm, mul-le-mul_right, suc-mul}
use native.Mathlib.Omega.{arith}
use lib.Dec.{T, leb, leb→le, lit<}
use lib.ListN.{length, get_or, set, length-set}
use lib.Seq.{get_or-set_other}
use Rattle.refusal.specs.Refusal.{answered, and_then}
use Rattle.sections.specs.declared.ByteRange.{ByteRange}
use Rattle.sections.specs.Sections.{header_bytes, In, Apart}
use Rattle.sections.proofs.Ranges.{none_shared}
use Rattle.grid.specs.declared.Grid.{Grid}
use Rattle.grid.specs.Grid.{grid_new}
use Rattle.decimation.specs.declared.Decimation.{Decimation}
use Rattle.decimation.specs.Decimation.{decimation_new}
use Rattle.card.specs.declared.Header.{Header}
use Rattle.card.specs.Words.{u32_at, u64_at, words_at}
use Rattle.card.specs.Bytes.{SameIn, SameOutside}
use Rattle.card.specs.Card.{grid_at, header_at, row_bytes, circle_bytes, with_header, with_grid, read_header, row_at, circle_at}
use Rattle.card.proofs.Bytes.{u32_bytes, u64_words}
use Rattle.card.proofs.Headers.{accepted}

-- one byte of a range changed: outside it the card is the same
pub set_outside : (r : ByteRange) (c : List ℕ) (j v : ℕ) → In r j → SameOutside r c (set c j v)
set_outside r c j v p =
    record { size = sym (length-set c j v); bytes = λ i out. sym (get_or-set_other c j i v 0 (λ e. out (subst (In r) (sym e) p))) }

-- ---- what is read from a range depends on its bytes alone

module _ (r : ByteRange) (c d : List ℕ) (same : SameIn r c d) where
  u32_same : (at : ℕ) → r.start ≤ at → at + 4 ≤ r.end → u32_at c at ≡ u32_at d at
  u32_same at l m =
      let byte : (k : ℕ) → k < 4 → get_or c (at + k) 0 ≡ get_or d (at + k) 0 = λ k p. same (at + k) (omega (arith, l), omega (arith, p, m)) in
      rw (u32_bytes c at, u32_bytes d at, byte 0 (lit< tt), byte 1 (lit< tt), byte 2 (lit< tt), byte 3 (lit< tt))

  u64_same : (at : ℕ) → r.start ≤ at → at + 8 ≤ r.end → u64_at c at ≡ u64_at d at
  u64_same at l m = rw (u64_words c at, u64_words d at, u32_same at l (omega (arith, m)), u32_same (at + 4) (omega (arith, l)) (omega (arith, m)))

  words_same : (at n : ℕ) → r.start ≤ at → at + 4 * n ≤ r.end → words_at c at n ≡ words_at d at n
  words_same at zero l m = refl
  words_same at (suc n) l m = rw (u32_same at l (omega (arith, m)), words_same (at + 4) n (omega (arith, l)) (omega (arith, m)))

module _ (c d : List ℕ) (size : length c ≡ length d) (same : SameIn header_bytes c d) where
  word : (at : ℕ) → T (leb (at + 4) 64) → u32_at c at ≡ u32_at d at
  word at t = u32_same header_bytes c d same at (omega arith) (leb→le (at + 4) 64 t)

  double : (at : ℕ) → T (leb (at + 8) 64) → u64_at c at ≡ u64_at d at
  double at t = u64_same header_bytes c d same at (omega arith) (leb→le (at + 8) 64 t)

  grid_same : grid_at c ≡ grid_at d
  unfolding grid_at
  grid_same = rw (word 0 tt, word 4 tt, double 8 tt, double 16 tt, double 24 tt, double 32 tt)

  fields_same : (x : Decimation) → header_at c x ≡ header_at d x
  unfolding header_at
  fields_same x = rw (word 40 tt, word 48 tt, word 52 tt, word 56 tt)

  with_grid_same : (g : Grid) → with_grid c g ≡ with_grid d g
  with_grid_same g =
      let fields : (x : Decimation) → with_header c g (header_at c x) ≡ with_header d g (header_at d x) = λ x. rw (fields_same x, size) in
      λ i. and_then (decimation_new g (word 44 tt i)) (λ x. fields x i)

  -- the header, by the card's length and its first 64 bytes
  pub header_same : read_header c ≡ read_header d
  unfolding read_header
  header_same =
      let rest : and_then (grid_new (grid_at c)) (with_grid c) ≡ and_then (grid_new (grid_at d)) (with_grid d)
      = λ i. and_then (grid_new (grid_same i)) (λ g. with_grid_same g i) in
      rw (size, word 60 tt, rest)

module _ (c d : List ℕ) (h : Header) where
  pub circle_same : SameIn (circle_bytes h) c d → (i : ℕ) → i < h.circles → circle_at c h i ≡ circle_at d h i
  unfolding circle_at
  circle_same same i l =
      let at = h.circles_at + 16 * i in
      let past : at + 16 ≤ (circle_bytes h).end = omega (arith, l) in
      let word = u32_same (circle_bytes h) c d same in
      rw (
        word at (omega arith) (omega (arith, past)),
        word (at + 4) (omega arith) (omega (arith, past)),
        u64_same (circle_bytes h) c d same (at + 8) (omega arith) (omega (arith, past)),
      )

  pub row_same : SameIn (row_bytes h) c d → (i : ℕ) → i < h.decimation.source.height → row_at c h i ≡ row_at d h i
  unfolding row_at
  row_same same i l =
      let w = h.decimation.source.width in
      words_same (row_bytes h) c d same (h.rows_at + 4 * (i * w)) w (omega arith)
      (omega (arith, mul-le-mul_right w l, suc-mul i w, mul_comm w h.decimation.source.height))

-- ---- an accepted card

module _ (card : List ℕ) (h : Header) (e : read_header card ≡ answered h) where
  -- no byte belongs to two of header, rows and circles
  pub no_byte_twice : Apart header_bytes (row_bytes h) × Apart header_bytes (circle_bytes h) × Apart (row_bytes h) (circle_bytes h)
  no_byte_twice = none_shared (row_bytes h) (circle_bytes h) (accepted card h e).apart

  -- whatever the bytes of the rows become, the header is read as before, and every circle is as it was
  pub rows_changed : (d : List ℕ) → SameOutside (row_bytes h) card d
      → (read_header d ≡ answered h) × ((i : ℕ) → i < h.circles → circle_at d h i ≡ circle_at card h i)
  rows_changed d same = (
    sym (header_same card d same.size (λ i p. same.bytes i (λ q. no_byte_twice.0 i p q))) ∙ e,
    λ i l. sym (circle_same card d h (λ j p. same.bytes j (λ q. no_byte_twice.2 j q p)) i l),
  )

  -- whatever the bytes of the circles become, the header is read as before, and every row is as it was
  pub circles_changed : (d : List ℕ) → SameOutside (circle_bytes h) card d
      → (read_header d ≡ answered h) × ((i : ℕ) → i < h.decimation.source.height → row_at d h i ≡ row_at card h i)
  circles_changed d same = (
    sym (header_same card d same.size (λ i p. same.bytes i (λ q. no_byte_twice.1 i p q))) ∙ e,
    λ i l. sym (row_same card d h (λ j p. same.bytes j (λ q. no_byte_twice.2 j p q)) i l),
  )
