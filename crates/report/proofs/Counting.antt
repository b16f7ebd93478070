-- A circle's checks: radius, kernel and circle calls give the number that document 01's order gives. Assumes nothing.
use mathlib.Core.Path.{◌≡◌, sym, ap, ◌∙◌}
use mathlib.Core.Bool.{Bool, true, false, not}
use mathlib.Core.List.{List}
use Prim.Native.Nat.{ℕ}
use borrow.Author.Tests.{le-ltb, lt-leb}
use lib.Dec.{leb}
use lib.ListN.{length}
use lib.Ieee.{Float, lt}
use lib.Ieee.Scale.{finite}
use Rattle.refusal.specs.Refusal.{answered, refused, first, passed, outcome, column_off_grid, radius_not_finite, radius_below_zero, row_off_grid, columns_dont_close}
use Rattle.refusal.proofs.Chains.{first_passed, answered_passed, refused_alike, never}
use Rattle.float.specs.Float.{f64zero}
use Rattle.radius.specs.declared.RadiusKm.{RadiusKm}
use Rattle.radius.specs.Radius.{radius_refusal, radius_new, valid_radius}
use Rattle.grid.specs.declared.Grid.{Grid}
use Rattle.grid.specs.declared.Row.{Row}
use Rattle.grid.specs.declared.Col.{Col}
use Rattle.grid.specs.Lookup.{closes}
use Rattle.layout.specs.Place.{corner}
use Rattle.kernel.specs.declared.Kernel.{Kernel}
use Rattle.kernel.specs.Kernel.{kernel_refusal, kernel_of, kernel_new}
use Rattle.kernel.proofs.Rules.{kernel_passed}
use Rattle.circle.specs.Circle.{circle_population}
use Rattle.circle.proofs.Made.{only_16, own_sum}
use Rattle.card.specs.declared.CardCircle.{CardCircle}
use Rattle.report.specs.Printed.{circle_checks, circle_count}
use Rattle.report.specs.private.Steps.{Countable}

-- two checks that refuse do so whatever comes after them
refused_first : {A B : Type 0} (a b : Bool) (x y rest n : ℕ) (p : A) (q : B) → refused n ≡ outcome (first a x (first b y passed)) p
    → refused n ≡ outcome (first a x (first b y rest)) q
refused_first true b x y rest n p q e = sym (refused_alike x n p q (sym e))
refused_first false true x y rest n p q e = sym (refused_alike y n p q (sym e))
refused_first false false x y rest n p q e = never e

-- ---- 18 and 19

pub radius_refused : (g : Grid) (c : CardCircle) (people : Float) {n : ℕ} → refused n ≡ radius_new c.radius → refused n ≡ outcome (circle_checks g c) people
unfolding radius_new radius_refusal circle_checks
radius_refused g c people {n} e = refused_first (not (finite c.radius)) (lt c.radius f64zero) radius_not_finite radius_below_zero _ n c.radius people e

-- ---- 15, 17, 16, once the radius is one

abbrev place_checks : Grid → CardCircle → ℕ → ℕ
place_checks g c rest = first (leb g.height c.row) row_off_grid (first (not (closes g)) columns_dont_close rest)

module _ (g : Grid) (c : CardCircle) (radius : RadiusKm) (m : answered radius.0 ≡ radius_new c.radius) where
  abbrev row : Row
  row = record { 0 = c.row }

  abbrev col : Col
  col = record { 0 = c.col }

  measured : (radius_refusal c.radius ≡ passed) × (c.radius ≡ radius.0)
  unfolding radius_new
  measured = answered_passed (radius_refusal c.radius) c.radius radius.0 (sym m)

  checks_go_on : circle_checks g c ≡ place_checks g c (first (leb g.width c.col) column_off_grid passed)
  unfolding circle_checks radius_refusal
  checks_go_on =
      let p = first_passed (not (finite c.radius)) radius_not_finite _ tt measured.0 in
      let q = first_passed (lt c.radius f64zero) radius_below_zero passed tt p.1 in
      rw (p.0, q.0)

  module _ {cells : List Float} {lent : List ℕ} (s : Countable g cells lent) where
    kernel_checks : kernel_refusal g row radius (length lent) ≡ place_checks g c passed
    unfolding kernel_refusal valid_radius
    kernel_checks = rw (s.grid, ← measured.1, measured.0, le-ltb (length lent) g.height s.room)

    pub kernel_refused : (people : Float) {n : ℕ} → refused n ≡ (kernel_new g row radius lent).answer → refused n ≡ outcome (circle_checks g c) people
    unfolding kernel_new
    kernel_refused people {n} f =
        rw checks_go_on
        (refused_first (leb g.height c.row) (not (closes g)) row_off_grid columns_dont_close _ n (kernel_of g row radius) people (rw kernel_checks at f))

    -- the kernel made, a circle call on it gives the rest, whatever the half-widths held
    pub circle_counted : {k : Kernel} {left : List ℕ} → answered k ≡ (kernel_new g row radius lent).answer → left ≡ (kernel_new g row radius lent).widths
        → circle_population g cells k left col ≡ outcome (circle_checks g c) (circle_count g cells c)
    unfolding kernel_new circle_population circle_count
    circle_counted {k} f w =
        let p = answered_passed (kernel_refusal g row radius (length lent)) (kernel_of g row radius) k (sym f) in
        let q = kernel_passed g row radius (length lent) p.0 in
        let same : radius ≡ record { 0 = c.radius } = ap (λ (x : Float). record { 0 = x }) (sym measured.1) in
        let on : circle_checks g c ≡ first (leb g.width c.col) column_off_grid passed =
        checks_go_on ∙ rw (lt-leb g.height c.row q.on, q.closes) in
        let own = own_sum g row radius lent g.width (corner g.width cells) c.col in
        rw (w, p.0, ← p.1, only_16 g row radius lent cells col p.0 s.right, own, on, same)
