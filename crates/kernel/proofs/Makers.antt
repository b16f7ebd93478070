-- 22 of a kernel: the test holds exactly where document 01's words do, and for what a kernel call made. Assumes nothing.
use mathlib.Core.Path.{◌≡◌, refl}
use mathlib.Core.Bool.{true, false, not}
use mathlib.Core.List.{List}
use Prim.Native.Nat.{ℕ, zero, suc, ◌+◌, ◌≤◌, ◌<◌}
use native.Mathlib.Omega.{arith}
use borrow.Author.Tests.{le-leb, leb-true, eqb-true, not-false}
use lib.Dec.{leb}
use lib.ListN.{length, take, drop, length-append}
use lib.Seq.{get_or-take, length-take-le, take_at}
use lib.Ieee.{lt}
use lib.Ieee.Scale.{finite}
use Rattle.refusal.specs.Refusal.{answered, passed, radius_not_finite, radius_below_zero}
use Rattle.refusal.proofs.Chains.{first_passed, answered_passed}
use Rattle.std.proofs.lemmas.Bool.{and_parts}
use Rattle.float.specs.Float.{f64zero}
use Rattle.radius.specs.Radius.{radius_refusal, valid_radius}
use Rattle.radius.specs.declared.RadiusKm.{RadiusKm}
use Rattle.grid.specs.Grid.{valid_grid}
use Rattle.grid.specs.declared.Grid.{Grid}
use Rattle.grid.specs.declared.Row.{Row}
use Rattle.grid.proofs.Valid.{valid_by, valid_passed, valid_lon}
use Rattle.cap.specs.Cap.{closing}
use Rattle.kernel.specs.Walks.{listed}
use Rattle.kernel.specs.Kernel.{cap_at, row_width, north_row, row_count, kernel_refusal, kernel_of, own_widths, half_widths_of, kernel_new, all_within, valid_kernel}
use Rattle.kernel.specs.Kernel.{FromMaker}
use Rattle.kernel.specs.declared.Kernel.{Kernel}
use Rattle.kernel.proofs.Walks.{length_listed}
use Rattle.kernel.proofs.Rules.{kernel_passed, rows_end, width_closed}
use Rattle.kernel.proofs.Entries.{each_within, all_within_lem}

-- ---- document 01's words

radius_by : (r : RadiusKm) → finite r.0 ≡ true → lt r.0 f64zero ≡ false → valid_radius r ≡ true
unfolding valid_radius radius_refusal
radius_by r f b = simp (f, b)

radius_passed : (r : RadiusKm) → valid_radius r ≡ true → (finite r.0 ≡ true) × (lt r.0 f64zero ≡ false)
unfolding valid_radius radius_refusal
radius_passed r e =
    let p = first_passed (not (finite r.0)) radius_not_finite _ tt (eqb-true (radius_refusal r.0) 0 e) in
    (not-false (finite r.0) p.0, (first_passed (lt r.0 f64zero) radius_below_zero passed tt p.1).0)

module _ (k : Kernel) (widths : List ℕ) where
  -- no kernel of which they hold is refused as one that its maker couldn't give
  pub maker_valid : FromMaker k widths → valid_kernel k widths ≡ true
  unfolding valid_kernel
  maker_valid m =
      simp (
        valid_by k.grid m.checks m.lon,
        radius_by k.radius m.finite_radius m.not_below,
        le-leb (k.north.0 + k.count) k.grid.height m.rows,
        le-leb k.count (length widths) m.slice,
      )
      (all_within_lem (closing k.grid.width) (take k.count widths)
      (λ i q. let l : i < k.count = rw (length-take-le k.count widths m.slice) at q in
      rw (get_or-take k.count widths i 0 l) (m.half i l)))

  -- and they hold of each that is not
  pub valid_maker : valid_kernel k widths ≡ true → FromMaker k widths
  unfolding valid_kernel
  valid_maker e =
      let c = closing k.grid.width in
      let p = and_parts _ (all_within c (take k.count widths)) e in
      let q = and_parts _ (leb k.count (length widths)) p.0 in
      let r = and_parts _ (leb (k.north.0 + k.count) k.grid.height) q.0 in
      let s = and_parts (valid_grid k.grid) (valid_radius k.radius) r.0 in
      let room = leb-true k.count (length widths) q.1 in
      let km = radius_passed k.radius s.1 in
      record {
        checks = valid_passed k.grid s.0;
        lon = valid_lon k.grid s.0;
        finite_radius = km.0;
        not_below = km.1;
        rows = leb-true _ _ r.1;
        slice = room;
        half =
            λ i h. rw (get_or-take k.count widths i 0 h) at (each_within c (take k.count widths) i p.1 (rw (length-take-le k.count widths room) h));
      }

-- ---- what a kernel call made

all_listed : (f : ℕ → ℕ) (c n k : ℕ) → ((r : ℕ) → f r ≤ c) → all_within c (listed f n k) ≡ true
all_listed f c n zero h = refl
all_listed f c n (suc k) h = rw (le-leb (f n) c (h n)) (all_listed f c (suc n) k h)

pub length_own : (g : Grid) (centre : Row) (radius : RadiusKm) → length (own_widths g centre radius) ≡ row_count g centre radius
unfolding own_widths
length_own g centre radius = length_listed (row_width g (cap_at g centre radius)) (north_row g centre radius) (row_count g centre radius)

module _ (g : Grid) (centre : Row) (radius : RadiusKm) (lent : List ℕ) where
  abbrev n : ℕ
  n = north_row g centre radius

  abbrev k : ℕ
  k = row_count g centre radius

  abbrev f : ℕ → ℕ
  f = row_width g (cap_at g centre radius)

  -- its first entries are its own half-widths, whatever was lent
  pub widths_own : take k (half_widths_of g centre radius lent) ≡ own_widths g centre radius
  unfolding half_widths_of
  widths_own = take_at (listed f n k) (drop k lent) k (length_listed f n k)

  -- it has a half-width for each row
  pub enough_widths : k ≤ length (half_widths_of g centre radius lent)
  unfolding half_widths_of
  enough_widths = omega (arith, length-append (listed f n k) (drop k lent), length_listed f n k)

  -- it passes 22 with the half-widths that the call left
  pub made_valid : kernel_refusal g centre radius (length lent) ≡ 0 → valid_kernel (kernel_of g centre radius) (half_widths_of g centre radius lent) ≡ true
  unfolding valid_kernel kernel_of own_widths
  made_valid e =
      let p = kernel_passed g centre radius (length lent) e in
      simp (
        p.grid,
        p.km,
        le-leb (n + k) g.height (rows_end g centre radius p.on),
        le-leb k (length (half_widths_of g centre radius lent)) enough_widths,
        widths_own,
      ) (all_listed f (closing g.width) n k (width_closed g centre radius))

  -- the same of the call's answer
  pub answered_valid : (made : Kernel) → (kernel_new g centre radius lent).answer ≡ answered made
      → valid_kernel made (kernel_new g centre radius lent).widths ≡ true
  unfolding kernel_new
  answered_valid made e =
      let p = answered_passed (kernel_refusal g centre radius (length lent)) (kernel_of g centre radius) made e in
      rw (← p.1, p.0) (made_valid p.0)
