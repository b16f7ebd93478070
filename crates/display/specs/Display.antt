-- FROM THE CARD TO THE DISPLAY: what `count` shows of a card whose cells are whole multiples of 2 ^ -s, by document 01's ledger alone: no table, no
-- builder and no sum of floats stands here. At s = 0 the cells are whole people. Definitions only.
use Rattle.std.specs.Prelude.{ℕ, zero, suc, ◌/◌, ◌%◌, ◌^◌, Bool, ◌&&◌, ◌||◌, cond, List, [], ◌∷◌, ◌++◌, T, eqb, leb, replicate}
use Rattle.std.specs.Float.{binary64}
use Rattle.std.specs.Float.Ieee.{to_bits}
use Rattle.refusal.specs.Refusal.{Outcome, answered, refused}
use Rattle.exact.specs.Units.{f64units}
use Rattle.grid.specs.declared.Grid.{Grid}
use Rattle.grid.specs.declared.Row.{Row}
use Rattle.radius.specs.declared.RadiusKm.{RadiusKm}
use Rattle.kernel.specs.Kernel.{north_row, row_count, half_widths_of}
use Rattle.area.specs.Area.{in_circle}
use Rattle.ledger.specs.Ledger.{Call, row, Ledger, opened, ledger_after, sum_in}
use Rattle.ledger.specs.Claim.{covered_in}
use Rattle.digits.specs.Digits.{decimal, hex_digits, bits_word, space, newline}
use Rattle.text.specs.Text.{total_word, circle_word, circle_refused_line, rows_line, cells_line}
use Rattle.card.specs.declared.Header.{Header}
use Rattle.card.specs.declared.CardCircle.{CardCircle}
use Rattle.card.specs.Card.{row_at, circle_at}
use Rattle.report.specs.Printed.{circle_checks}

-- the first n rows of the card, in order, as row calls
abbrev pub row_calls : List ℕ → Header → ℕ → List Call
row_calls card h zero = []
row_calls card h (suc n) = row_calls card h n ++ row (row_at card h n) ∷ []

-- document 01's ledger, fed those rows; and fed every row of the card
abbrev pub ledger_of : List ℕ → Header → ℕ → Ledger
ledger_of card h n = ledger_after h.decimation.source h.nodata opened (row_calls card h n)

abbrev pub card_ledger : List ℕ → Header → Ledger
card_ledger card h = ledger_of card h h.decimation.source.height

-- the people of a circle: the sum of the source cells that it covers, by the rows and half-widths that its kernel has on the coarse grid
unfoldable pub people_covered : ℕ → List ℕ → Header → CardCircle → ℕ
people_covered s card h c =
    let g : Grid = h.decimation.grid in
    let centre : Row = record { 0 = c.row } in
    let radius : RadiusKm = record { 0 = c.radius } in
    covered_in s h.decimation.source (card_ledger card h)
    (in_circle h.decimation.factor g.width (north_row g centre radius) (row_count g centre radius) c.col
    (half_widths_of g centre radius (replicate g.height 0)))

-- document 02, C-23: n units of 2 ^ -s are shown in decimal where they are whole people, and else as the bits of n · 2 ^ -s; up to 2 ^ 53 units
-- nothing of that is rounded (`units_value` of exact)
unfoldable pub units_shown : ℕ → ℕ → List ℕ
units_shown s n = cond (eqb (n % 2 ^ s) 0) (decimal (n / 2 ^ s)) (bits_word ++ hex_digits 16 (to_bits binary64 (f64units s n)))

-- a circle's line: its index and the people, or `refused` and the number of the first of 18, 19, 15, 17, 16 that fails
abbrev pub people_or : ℕ → ℕ → ℕ → ℕ → List ℕ
people_or s i zero people = circle_word ++ decimal i ++ space ++ units_shown s people ++ newline
people_or s i (suc n) people = circle_refused_line i (suc n)

abbrev pub circle_shown : ℕ → List ℕ → Header → ℕ → List ℕ
circle_shown s card h i = people_or s i (circle_checks h.decimation.grid (circle_at card h i)) (people_covered s card h (circle_at card h i))

-- the lines of the first n circles
abbrev pub circles_shown : ℕ → List ℕ → Header → ℕ → List ℕ
circles_shown s card h zero = []
circles_shown s card h (suc n) = circles_shown s card h n ++ circle_shown s card h n

-- `rows` and the height, `cells` and the ledger's tallies, `total` and the sum of the ledger's cells, then the circles
abbrev pub displayed : ℕ → List ℕ → Header → List ℕ
displayed s card h =
    let l = card_ledger card h in
    rows_line h.decimation.source.height ++ cells_line l.tallies ++ (total_word ++ units_shown s (sum_in s l) ++ newline)
    ++ circles_shown s card h h.circles

-- ---- the numbers that a card's text can have, as docs/DISPLAY.md lists them

-- of a card: 1 to 10, 25 to 27, and 32 (document 02, C-17)
abbrev pub of_card : ℕ → Bool
of_card n = (leb 1 n && leb n 10) || (leb 25 n && leb n 27) || eqb n 32

-- of a circle: 15 to 19; at 0 it is counted
abbrev pub of_circle : ℕ → Bool
of_circle n = eqb n 0 || (leb 15 n && leb n 19)

-- a card that is refused has its own number, and an accepted one those of its circles
abbrev pub NumbersShown : List ℕ → Outcome Header → Type 0
NumbersShown card (refused n) = T (of_card n)
NumbersShown card (answered h) = (i : ℕ) → T (of_circle (circle_checks h.decimation.grid (circle_at card h i)))
