-- The numbers that the display can show. Assumes nothing.
use Prim.Native.Nat.{ℕ, ◌≤◌, ◌<◌}
use mathlib.Core.Path.{◌≡◌}
use mathlib.Core.Bool.{not, ◌&&◌}
use mathlib.Core.List.{List}
use native.Mathlib.Omega.{arith}
use borrow.Author.Tests.{le-leb}
use lib.Dec.{T, eqb, ltb, leb}
use lib.ListN.{length}
use lib.Ieee.{lt}
use lib.Ieee.Scale.{finite}
use Rattle.refusal.specs.Refusal.{Outcome, answered, refused, RefusedOnly, first, passed}
use Rattle.refusal.specs.Refusal.{card_too_large, card_ends_early, card_word_not_zero, sections_overlap}
use Rattle.refusal.specs.Refusal.{radius_not_finite, radius_below_zero, row_off_grid, columns_dont_close, column_off_grid}
use Rattle.refusal.proofs.Chains.{first_only, outcome_only, past_only, then_only}
use Rattle.float.specs.Float.{f64zero}
use Rattle.sections.specs.Sections.{inside, sections_apart, section_refusal}
use Rattle.grid.specs.declared.Grid.{Grid}
use Rattle.grid.specs.Grid.{grid_refusal, grid_new}
use Rattle.grid.specs.Lookup.{closes}
use Rattle.grid.proofs.Valid.{grid_numbers}
use Rattle.decimation.specs.Decimation.{decimation_of, decimation_new, factor_refusal}
use Rattle.decimation.proofs.Factors.{factor_numbers}
use Rattle.card.specs.declared.Header.{Header}
use Rattle.card.specs.declared.CardCircle.{CardCircle}
use Rattle.card.specs.Words.{u32_at}
use Rattle.card.specs.Card.{grid_at, header_at, row_bytes, circle_bytes, table_too_large, with_header, with_grid, read_header, circle_at}
use Rattle.card.proofs.Headers.{never_22}
use Rattle.report.specs.Printed.{circle_checks}
use Rattle.display.specs.Display.{of_card, of_circle, NumbersShown}

circle_numbers : (g : Grid) (c : CardCircle) → T (of_circle (circle_checks g c))
unfolding circle_checks
circle_numbers g c =
    let P : ℕ → Type 0 = λ n. T (of_circle n) in
    first_only P (not (finite c.radius)) radius_not_finite _ tt
    (first_only P (lt c.radius f64zero) radius_below_zero _ tt
    (first_only P (leb g.height c.row) row_off_grid _ tt
    (first_only P (not (closes g)) columns_dont_close _ tt
    (first_only P (leb g.width c.col) column_off_grid passed tt tt))))

abbrev OfCard : ℕ → Type 0
OfCard n = T (of_card n)

up_to_10 : (n : ℕ) → n ≤ 10 → 0 < n → OfCard n
up_to_10 n l q = rw (le-leb 1 n q, le-leb n 10 l) tt

module _ (card : List ℕ) where
  with_header_lem : (g : Grid) (h : Header) → RefusedOnly OfCard (with_header card g h)
  with_header_lem g h =
      let P : ℕ → Type 0 = λ n. 0 < n → OfCard n in
      let rows = row_bytes h in
      let circles = circle_bytes h in
      let overlap = first (not (sections_apart rows circles)) sections_overlap passed in
      outcome_only OfCard (first (table_too_large g) card_too_large (section_refusal (length card) rows circles)) h
      (first_only P (table_too_large g) card_too_large (section_refusal (length card) rows circles) (λ _. tt)
      (first_only P (not (inside (length card) rows && inside (length card) circles)) card_ends_early overlap (λ _. tt)
      (first_only P (not (sections_apart rows circles)) sections_overlap passed (λ _. tt) (λ q. absurd (omega (arith, q))))))

  with_grid_lem : (g : Grid) → grid_new (grid_at card) ≡ answered g → RefusedOnly OfCard (with_grid card g)
  with_grid_lem g e =
      let k = u32_at card 44 in
      then_only OfCard (decimation_new g k) (λ d. with_header card g (header_at card d))
      (rw (never_22 card g k e) (outcome_only OfCard (factor_refusal g k) (decimation_of g k) (up_to_10 _ (factor_numbers g k))))
      (λ d _. with_header_lem g (header_at card d))

  card_numbers : RefusedOnly OfCard (read_header card)
  unfolding read_header grid_new
  card_numbers =
      let n = grid_refusal (grid_at card) in
      past_only OfCard (ltb 65536 (length card)) card_too_large _ tt
      (past_only OfCard (ltb (length card) 64) card_ends_early _ tt
      (past_only OfCard (not (eqb (u32_at card 60) 0)) card_word_not_zero _ tt
      (then_only OfCard (grid_new (grid_at card)) (with_grid card)
      (outcome_only OfCard n _ (up_to_10 n (omega (arith, grid_numbers (grid_at card))))) with_grid_lem)))

  -- no card shows any other: the counter's own buffers are right, so 11, 29 and 30 are not among them
  pub numbers_shown : NumbersShown card (read_header card)
  numbers_shown = go (read_header card) card_numbers
    where
      go : (o : Outcome Header) → RefusedOnly OfCard o → NumbersShown card o
      go (refused n) p = p
      go (answered h) p = λ i. circle_numbers h.decimation.grid (circle_at card h i)
