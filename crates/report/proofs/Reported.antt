-- The whole text: its lines behind one another, and how long it is at most. Assumes nothing.
use mathlib.Core.Bool.{Bool, true, false, not}
use mathlib.Core.List.{List, ◌++◌}
use mathlib.Core.Path.{◌≡◌}
use Prim.Native.Nat.{ℕ, zero, suc, ◌*◌, ◌^◌, ◌<◌, ◌≤◌}
use native.Mathlib.Omega.{arith}
use lib.Dec.{T, ltb, leb, lit<}
use lib.Ieee.{Float, lt}
use lib.Ieee.Scale.{finite}
use lib.ListN.{length, length-append}
use Rattle.refusal.proofs.Chains.{answered_same}
use Rattle.refusal.specs.Refusal.{answered, refused, first, passed, outcome, radius_not_finite, radius_below_zero, row_off_grid, columns_dont_close, column_off_grid}
use Rattle.float.specs.Float.{f64zero}
use Rattle.grid.specs.declared.Grid.{Grid}
use Rattle.grid.specs.Lookup.{closes}
use Rattle.builder.specs.declared.BuiltTable.{BuiltTable}
use Rattle.builder.specs.Build.{built_table, total_of}
use Rattle.std.specs.Borrow.{MutBor}
use Rattle.text.specs.Text.{refused_line, rows_line, cells_line, total_line}
use Rattle.digits.specs.declared.Page.{Page}
use Rattle.digits.specs.Laid.{Laid, Lays, Begins}
use Rattle.digits.proofs.Laying.{laid_whole, lays_then}
use Rattle.text.proofs.Lengths.{refused_length, rows_length, cells_length, total_length, circle_length, circle_refused_length}
use Rattle.card.specs.declared.Header.{Header}
use Rattle.card.specs.declared.CardCircle.{CardCircle}
use Rattle.card.specs.Card.{read_header, circle_at}
use Rattle.card.specs.private.Accepted.{Accepted}
use Rattle.report.specs.Printed.{circle_checks, circle_count, circle_text, circles_text, report_text, printed}
use Rattle.report.specs.private.Steps.{whole_build, Finished, Printed}
use Rattle.report.proofs.Sizes.{sizes}
use Rattle.report.proofs.Building.{all_tallied}

-- ---- lengths

-- a cause's number fits a word
first_below : (b : Bool) (n rest : ℕ) → T (ltb n (2 ^ 32)) → rest < 2 ^ 32 → first b n rest < 2 ^ 32
first_below true n rest p q = lit< p
first_below false n rest p q = q

checks_below : (g : Grid) (c : CardCircle) → circle_checks g c < 2 ^ 32
unfolding circle_checks
checks_below g c =
    first_below (not (finite c.radius)) radius_not_finite _ tt
    (first_below (lt c.radius f64zero) radius_below_zero _ tt
    (first_below (leb g.height c.row) row_off_grid _ tt
    (first_below (not (closes g)) columns_dont_close _ tt
    (first_below (leb g.width c.col) column_off_grid passed tt (lit< tt)))))

circle_text_length : (i n : ℕ) (people : Float) → i < 10000 → n < 2 ^ 32 → length (circle_text i (outcome n people)) ≤ 34
circle_text_length i zero people h k = circle_length i people h
circle_text_length i (suc n) people h k = circle_refused_length i (suc n) h k

-- 34 bytes a circle
circles_length : (card : List ℕ) (h : Header) (cells : List Float) (n : ℕ) → n ≤ 4096 → length (circles_text card h cells n) ≤ 34 * n
circles_length card h cells zero k = omega arith
circles_length card h cells (suc n) k =
    let g = h.decimation.grid in
    let c = circle_at card h n in
    let line = circle_text n (outcome (circle_checks g c) (circle_count g cells c)) in
    omega (
      arith,
      length-append (circles_text card h cells n) line,
      circles_length card h cells n (omega arith),
      circle_text_length n (circle_checks g c) (circle_count g cells c) (omega arith) (checks_below g c),
    )

-- the first three lines of a card's text
abbrev summary : List ℕ → Header → List ℕ
summary card h =
    let b = whole_build card h in
    rows_line h.decimation.source.height ++ cells_line b.builder.tallies ++ total_line (total_of b.builder b.lent)

summary_length : (card : List ℕ) (h : Header) → Accepted card h → length (summary card h) ≤ 69
summary_length card h a =
    let b = whole_build card h in
    let rows = rows_line h.decimation.source.height in
    let tallies = cells_line b.builder.tallies in
    let total = total_line (total_of b.builder b.lent) in
    let z = sizes a in
    omega (
      arith,
      length-append (rows ++ tallies) total,
      length-append rows tallies,
      rows_length h.decimation.source.height (omega (arith, z.height)),
      cells_length b.builder.tallies (omega (arith, all_tallied a, z.cells)),
      total_length (total_of b.builder b.lent),
    )

-- 69 bytes, and 34 for each of 4,096 circles
pub report_length : (card : List ℕ) (h : Header) → Accepted card h → length (report_text card (answered h)) ≤ 139333
report_length card h a =
    let cells = (whole_build card h).lent.table in
    let few : h.circles ≤ 4096 = omega (arith, a.circles, a.whole) in
    omega (
      arith,
      length-append (summary card h) (circles_text card h cells h.circles),
      summary_length card h a,
      circles_length card h cells h.circles few,
    )

-- ---- the text

-- the summary, and the circles behind it, are the whole text
pub report_printed : {card : List ℕ} {h : Header} {t : BuiltTable} {cells : List Float} {o m e : Page} → Accepted card h
    → Finished card h (answered t) cells → Lays o (rows_line h.decimation.source.height ++ cells_line t.tallies ++ total_line t.total) m
    → Lays m (circles_text card h cells h.circles) e → Lays o (report_text card (answered h)) e
unfolding built_table
report_printed a f front circles = rw (answered_same f.table, f.filled) at (lays_then front circles)

pub printed_report : (card : List ℕ) (h : Header) → read_header card ≡ answered h → printed card ≡ report_text card (answered h)
unfolding printed
printed_report card h e = rw e

pub printed_refused : (card : List ℕ) (n : ℕ) → read_header card ≡ refused n → printed card ≡ refused_line n
unfolding printed
printed_refused card n e = rw e

-- a text that is short enough, laid over a lent slice from its front on
pub page_printed : {lent : MutBor (List ℕ)} {page end : Page} {text : List ℕ} → Begins lent 0 page → Lays page text end → length text ≤ 139333
    → Printed text lent.now end.out.now end.at
page_printed {lent} {page} {end} {text} b l h =
    let laid : Laid lent.now 0 text end.out.now end.at = rw (b.now, b.place) at l.laid in
    let size = laid_whole laid (omega (arith, h)) in
    record { size = size; left = laid.left; bounded = omega (arith, size, h) }

-- the same of the text that the card's bytes give, and how long it is at most
pub report_whole : {card bytes : List ℕ} {h : Header} {t : BuiltTable} {cells : List Float} {o m e : Page} → read_header card ≡ answered h → bytes ≡ card
    → Accepted bytes h → Finished bytes h (answered t) cells
    → Lays o (rows_line h.decimation.source.height ++ cells_line t.tallies ++ total_line t.total) m
    → Lays m (circles_text bytes h cells h.circles) e → Lays o (printed card) e × (length (printed card) ≤ 139333)
report_whole {card} {bytes} {h} p q a f front circles =
    let same : printed card ≡ report_text bytes (answered h) = rw (printed_report card h p, q) in
    (rw same (report_printed a f front circles), rw same (report_length bytes h a))

-- the text of a card that is refused
pub refused_whole : (card : List ℕ) (n : ℕ) {o e : Page} → printed card ≡ refused_line n → n < 2 ^ 32 → Lays o (refused_line n) e
    → Lays o (printed card) e × (length (printed card) ≤ 139333)
refused_whole card n p h line = (rw p line, rw p (omega (arith, refused_length n h)))
