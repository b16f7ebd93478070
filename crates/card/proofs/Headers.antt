-- What the header's checks give. Assumes nothing.
use mathlib.Core.Path.{◌≡◌, subst, ◌∙◌, ap}
use mathlib.Core.Bool.{cond, not}
use mathlib.Core.List.{List}
use Prim.Native.Nat.{ℕ, ◌≤◌}
use native.Mathlib.Nat.{mul-le-mul}
use borrow.Author.Tests.{ltb-false, leb-true, not-false}
use lib.Dec.{ltb, eqb}
use lib.Ieee.{binary64}
use lib.Ieee.Bits.{of_bits-fits}
use lib.ListN.{length}
use Rattle.refusal.specs.Refusal.{answered, first, passed, outcome, and_then, card_ends_early, card_too_large, sections_overlap}
use Rattle.refusal.proofs.Chains.{first_passed, answered_passed, went_past, went_on}
use Rattle.std.proofs.lemmas.Bool.{and_parts}
use Rattle.sections.specs.Sections.{inside, sections_apart, section_refusal}
use Rattle.grid.specs.declared.Grid.{Grid}
use Rattle.grid.specs.Grid.{grid_new}
use Rattle.grid.proofs.Wrapped.{made_valid}
use Rattle.decimation.specs.declared.Decimation.{Decimation}
use Rattle.decimation.specs.Decimation.{decimation_of, decimation_new, factor_refusal}
use Rattle.decimation.proofs.Factors.{decimation_made, framed}
use Rattle.card.specs.declared.Header.{Header}
use Rattle.card.specs.Words.{u32_at, u64_at}
use Rattle.card.specs.Card.{grid_at, header_at, row_bytes, circle_bytes, table_too_large, with_header, with_grid, read_header}
use Rattle.card.specs.private.Accepted.{FewCells, Accepted}

-- ---- an accepted header

-- the grid that a card's header makes is valid, so its decimation is refused by 10 and the coarse grid's own 1 to 9 alone, and never by 22
pub never_22 : (card : List ℕ) (g : Grid) (k : ℕ) → grid_new (grid_at card) ≡ answered g
    → decimation_new g k ≡ outcome (factor_refusal g k) (decimation_of g k)
unfolding decimation_new grid_at
never_22 card g k e = rw (made_valid (grid_at card) g (of_bits-fits binary64 (u64_at card 16)) e)

-- a grid that passed has too few cells for a byte's offset to wrap
pub few_cells : (card : List ℕ) (g : Grid) (d : Decimation) (x : Header) → decimation_new g (u32_at card 44) ≡ answered d → x ≡ header_at card d
    → FewCells x.decimation.source
unfolding header_at
few_cells card g d x e f = let s = framed d (decimation_made g (u32_at card 44) d e).valid in rw f (mul-le-mul s.columns s.lines)

-- what an accepted header gives
header_accepted : (card : List ℕ) (g : Grid) (d : Decimation) (h : Header) → length card ≤ 65536 → decimation_new g (u32_at card 44) ≡ answered d
    → with_header card g (header_at card d) ≡ answered h → Accepted card h
unfolding header_at
header_accepted card g d h whole made e =
    let x = header_at card d in
    let rows = row_bytes x in
    let circles = circle_bytes x in
    let p = answered_passed (first (table_too_large g) card_too_large (section_refusal (length card) rows circles)) x h e in
    let q = first_passed (table_too_large g) card_too_large (section_refusal (length card) rows circles) tt p.0 in
    let r = first_passed _ card_ends_early (first (not (sections_apart rows circles)) sections_overlap passed) tt q.1 in
    let from = (decimation_made g (u32_at card 44) d made).is in
    let s = and_parts (inside (length card) rows) (inside (length card) circles) (not-false _ r.0) in
    subst (λ (y : Header). Accepted card y) p.1
    record {
      whole = whole;
      small = rw from (ltb-false _ _ q.0);
      rows = leb-true _ _ s.0;
      circles = leb-true _ _ s.1;
      apart = not-false _ (first_passed (not (sections_apart rows circles)) sections_overlap passed tt r.1).0;
      made = ap (λ (y : Decimation). decimation_new y.source y.factor) from ∙ made;
    }

pub accepted : (card : List ℕ) (h : Header) → read_header card ≡ answered h → Accepted card h
unfolding read_header
accepted card h e =
    let rest = and_then (grid_new (grid_at card)) (with_grid card) in
    let p = went_past (ltb 65536 (length card)) _ (cond (ltb (length card) 64) _ (cond (not (eqb (u32_at card 60) 0)) _ rest)) h e in
    let q = went_past (ltb (length card) 64) _ (cond (not (eqb (u32_at card 60) 0)) _ rest) h p.1 in
    let r = went_past (not (eqb (u32_at card 60) 0)) _ rest h q.1 in
    let (g, _, s) = went_on (grid_new (grid_at card)) (with_grid card) h r.1 in
    let (d, made, t) = went_on (decimation_new g (u32_at card 44)) (λ d. with_header card g (header_at card d)) h s in
    header_accepted card g d h (ltb-false _ _ p.0) made t
