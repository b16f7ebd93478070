-- FROM THE CARD TO THE DISPLAY. Assumes nothing.
use Prim.Native.Nat.{ℕ, zero, suc, ◌^◌, ◌≤◌, ◌<◌}
use native.Mathlib.Nat.{le_refl}
use mathlib.Core.Path.{◌≡◌, refl, sym, ap, ◌∙◌}
use mathlib.Core.Bool.{not}
use mathlib.Core.List.{List, ◌++◌}
use borrow.Author.Tests.{leb-false}
use lib.Dec.{leb}
use lib.ListN.{length, replicate}
use lib.Ieee.{lt}
use lib.Ieee.Scale.{finite}
use Rattle.refusal.specs.Refusal.{answered, refused, outcome, passed, radius_not_finite, radius_below_zero, row_off_grid, columns_dont_close, column_off_grid}
use Rattle.refusal.proofs.Chains.{first_passed}
use Rattle.float.specs.Float.{f64zero}
use Rattle.exact.specs.Units.{f64units}
use Rattle.radius.specs.declared.RadiusKm.{RadiusKm}
use Rattle.grid.specs.declared.Grid.{Grid}
use Rattle.grid.specs.declared.Row.{Row}
use Rattle.grid.specs.Lookup.{closes}
use Rattle.decimation.specs.Decimation.{coarse_grid}
use Rattle.builder.specs.declared.Builder.{Builder}
use Rattle.builder.specs.Build.{total_of}
use Rattle.layout.specs.Place.{corner}
use Rattle.kernel.specs.Kernel.{kernel_of, half_widths_of}
use Rattle.kernel.proofs.Rules.{rows_end, widths_rule}
use Rattle.kernel.proofs.Makers.{enough_widths}
use Rattle.circle.proofs.Made.{own_sum}
use Rattle.ledger.specs.Ledger.{Ledger, sum_in, WholeAndSmall}
use Rattle.ledger.proofs.Cells.{units_small}
use Rattle.ledger.proofs.Following.{Follows}
use Rattle.ledger.proofs.Theorem.{total_units, circle_sum_of, covered_small}
use Rattle.digits.specs.Digits.{newline}
use Rattle.text.specs.Text.{total_word, total_line, circle_line, refused_line}
use Rattle.card.specs.declared.Header.{Header}
use Rattle.card.specs.declared.CardCircle.{CardCircle}
use Rattle.card.specs.Card.{read_header, circle_at}
use Rattle.card.specs.private.Accepted.{Accepted}
use Rattle.card.proofs.Headers.{accepted}
use Rattle.report.specs.Printed.{Building, built_from, circle_checks, circle_count, circle_text, circles_text, printed}
use Rattle.display.specs.Display.{card_ledger, people_covered, units_shown, people_or, circles_shown, displayed}
use Rattle.display.proofs.Shown.{shown_units}
use Rattle.display.proofs.Built.{counter_of, own_grid, follows}

-- a circle whose checks all pass is on the grid
checks_passed : (g : Grid) (c : CardCircle) → circle_checks g c ≡ 0 → (c.row < g.height) × (c.col < g.width)
unfolding circle_checks
checks_passed g c e =
    let p18 = first_passed (not (finite c.radius)) radius_not_finite _ tt e in
    let p19 = first_passed (lt c.radius f64zero) radius_below_zero _ tt p18.1 in
    let p15 = first_passed (leb g.height c.row) row_off_grid _ tt p19.1 in
    let p17 = first_passed (not (closes g)) columns_dont_close _ tt p15.1 in
    let p16 = first_passed (leb g.width c.col) column_off_grid passed tt p17.1 in
    (leb-false _ _ p15.0, leb-false _ _ p16.0)

module _ (s : ℕ) (S : s ≤ 1074) (card : List ℕ) (h : Header) (e : read_header card ≡ answered h) (ok : WholeAndSmall s (card_ledger card h)) where
  abbrev l : Ledger
  l = card_ledger card h

  abbrev source : Grid
  source = h.decimation.source

  abbrev coarse : Grid
  coarse = h.decimation.grid

  abbrev built : Building
  built = built_from card h source.height

  a : Accepted card h
  a = accepted card h e

  own : coarse_grid source h.decimation.factor ≡ coarse
  own = own_grid card h a

  f : Follows source h.decimation.factor h.nodata l (counter_of card h a source.height)
  f = (follows card h a source.height (le_refl source.height)).0

  all : length l.cells ≡ source.height
  all = (follows card h a source.height (le_refl source.height)).1

  -- the total's line
  total_shown : total_line (total_of built.builder built.lent) ≡ total_word ++ units_shown s (sum_in s l) ++ newline
  unfolding total_line
  total_shown = rw (total_units S f ok, shown_units s S (sum_in s l) (units_small s S l ok))

  -- a circle that is counted has the people of the source cells that it covers
  people_are : (c : CardCircle) → circle_checks coarse c ≡ 0 → circle_count coarse built.lent.table c ≡ f64units s (people_covered s card h c)
  unfolding circle_count people_covered kernel_of
  people_are c p =
      let on = checks_passed coarse c p in
      let row : Row = record { 0 = c.row } in
      let radius : RadiusKm = record { 0 = c.radius } in
      let zeros : List ℕ = replicate coarse.height 0 in
      sym (own_sum coarse row radius zeros coarse.width (corner coarse.width built.lent.table) c.col)
      ∙ rw own at
      (circle_sum_of S f ok all (kernel_of coarse row radius) (half_widths_of coarse row radius zeros) c.col (rw own on.1)
      (rw own (rows_end coarse row radius on.0)) (enough_widths coarse row radius zeros) (rw own (λ i q. (widths_rule coarse row radius zeros i q).closed)))

  people_small : (c : CardCircle) → people_covered s card h c ≤ 2 ^ 53
  unfolding people_covered
  people_small c = covered_small S f ok all _

  -- a circle's line, by what its checks give
  line_shown : (i : ℕ) (c : CardCircle) (n : ℕ) → circle_checks coarse c ≡ n
      → circle_text i (outcome (circle_checks coarse c) (circle_count coarse built.lent.table c))
      ≡ people_or s i (circle_checks coarse c) (people_covered s card h c)
  unfolding circle_line
  line_shown i c zero p = rw (p, people_are c p, shown_units s S (people_covered s card h c) (people_small c))
  line_shown i c (suc n) p = rw p

  circles_shown_lem : (n : ℕ) → circles_text card h built.lent.table n ≡ circles_shown s card h n
  circles_shown_lem zero = refl
  circles_shown_lem (suc n) = rw (circles_shown_lem n, line_shown n (circle_at card h n) (circle_checks coarse (circle_at card h n)) refl)

  -- a card that is accepted, whose sanitised cells are whole multiples of 2 ^ -s and add up to at most 2 ^ (53 - s) people, prints what the ledger
  -- says: for every s up to 1074, and so for those of document 02, 0 to 20
  pub display : printed card ≡ displayed s card h
  unfolding printed
  display = rw (e, total_shown, circles_shown_lem h.circles, ap (λ (b : Builder). b.tallies) f.builder)

-- and a card that is not accepted prints its refusal's line alone
pub display_refused : (card : List ℕ) (n : ℕ) → read_header card ≡ refused n → printed card ≡ refused_line n
unfolding printed
display_refused card n e = rw e
