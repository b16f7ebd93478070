-- A factor that divides a grid, and the coarse grid that it makes. Assumes nothing.
use mathlib.Core.Path.{◌≡◌, sym, ap}
use mathlib.Core.Bool.{true, false, not, ◌||◌}
use Prim.Native.Nat.{ℕ, ◌*◌, ◌/◌, ◌%◌, ◌≤◌, ◌<◌}
use native.Mathlib.Nat.{pos_of_ne-zero, div-add-mod', mul-one, mul-le-mul_left}
use native.Mathlib.Omega.{arith}
use borrow.Author.Tests.{eqb-true, eqb-false, not-false}
use lib.Dec.{eqb, lit≤}
use lib.Ieee.Fits.{mul-fits}
use Rattle.std.proofs.lemmas.Bool.{and_parts, or_parts}
use Rattle.refusal.proofs.Chains.{first_passed, answered_passed, first_only}
use Rattle.refusal.specs.Refusal.{answered, first, not_its_makers, factor_not_dividing}
use Rattle.grid.specs.declared.Grid.{Grid}
use Rattle.grid.specs.Grid.{limit, grid_refusal, valid_grid, same_grid, grid_new}
use Rattle.grid.proofs.Valid.{grid_sized, grid_numbers, valid_lon}
use Rattle.grid.proofs.Same.{Binary64, same_sizes, same_self, same_is}
use Rattle.grid.proofs.Wrapped.{remade_valid, wrap_fits}
use Rattle.decimation.specs.declared.Decimation.{Decimation}
use Rattle.decimation.specs.Decimation.{off_factor, coarsened, coarse_grid, factor_refusal, decimation_of, decimation_new, valid_decimation}

pub record Divides (k : ℕ) (g : Grid) : Type 0 where
  pub some : 0 < k
  pub wide : g.width / k * k ≡ g.width
  pub high : g.height / k * k ≡ g.height

pub on_factor : (g : Grid) (k : ℕ) → off_factor g k ≡ false → Divides k g
on_factor g k e =
    let p = or_parts (eqb k 0 || not (eqb (g.width % k) 0)) (not (eqb (g.height % k) 0)) e in
    let q = or_parts (eqb k 0) (not (eqb (g.width % k) 0)) p.0 in
    let w = eqb-true (g.width % k) 0 (not-false _ q.1) in
    let h = eqb-true (g.height % k) 0 (not-false _ p.1) in
    record {
      some = pos_of_ne-zero (eqb-false k 0 q.0);
      wide = omega (arith, div-add-mod' g.width k);
      high = omega (arith, div-add-mod' g.height k);
    }

module _ (g : Grid) (k : ℕ) where
  parts : factor_refusal g k ≡ 0 → (off_factor g k ≡ false) × (grid_refusal (coarsened g k) ≡ 0)
  unfolding factor_refusal
  parts e = first_passed (off_factor g k) factor_not_dividing (grid_refusal (coarsened g k)) tt e

  -- a factor is refused with 10 or the coarse grid's own 1 to 9
  pub factor_numbers : factor_refusal g k ≤ 10
  unfolding factor_refusal
  factor_numbers =
      first_only (λ n. n ≤ 10) (off_factor g k) factor_not_dividing (grid_refusal (coarsened g k)) (lit≤ tt) (omega (arith, grid_numbers (coarsened g k)))

  -- the coarse grid is one that its maker could give
  pub coarse_valid : valid_grid g ≡ true → factor_refusal g k ≡ 0 → valid_grid (coarse_grid g k) ≡ true
  unfolding coarse_grid coarsened grid_new
  coarse_valid v f = remade_valid (coarsened g k) (coarse_grid g k) (valid_lon g v) (rw (parts f).1)

  -- a decimation of a valid grid by a factor that passes is one that its maker could give
  pub decimation_valid : valid_grid g ≡ true → factor_refusal g k ≡ 0 → valid_decimation (decimation_of g k) ≡ true
  unfolding valid_decimation
  decimation_valid v f = rw (v, f, same_self (coarse_grid g k))

-- ---- a decimation

-- 22 of a decimation, part by part
pub record Parts (d : Decimation) : Type 0 where
  pub source : valid_grid d.source ≡ true
  pub factored : factor_refusal d.source d.factor ≡ 0
  pub same : same_grid d.grid (coarse_grid d.source d.factor) ≡ true

pub valid_parts : (d : Decimation) → valid_decimation d ≡ true → Parts d
unfolding valid_decimation
valid_parts d e =
    let p = and_parts _ (same_grid d.grid (coarse_grid d.source d.factor)) e in
    let q = and_parts (valid_grid d.source) (eqb (factor_refusal d.source d.factor) 0) p.0 in
    record { source = q.0; factored = eqb-true _ _ q.1; same = p.1 }

-- 22 is exact: a decimation of binary64 values that passes is the one that its maker gives
pub valid_made : (d : Decimation) → Binary64 d.source → Binary64 d.grid → valid_decimation d ≡ true → decimation_new d.source d.factor ≡ answered d
unfolding decimation_new coarse_grid coarsened
valid_made d s c e =
    let p = valid_parts d e in
    let lon = wrap_fits d.source.lon s.lon in
    let own : Binary64 (coarse_grid d.source d.factor) = record { lat = s.lat; lon = lon; lon_step = mul-fits _ _ _; lat_step = mul-fits _ _ _ } in
    rw (p.source, p.factored, ← same_is d.grid (coarse_grid d.source d.factor) c own p.same)

-- the sizes of its grids: the coarse grid's times the factor are the source's
pub record Framed (d : Decimation) : Type 0 where
  pub some : 0 < d.factor
  pub columns : d.source.width ≤ limit
  pub lines : d.source.height ≤ limit
  pub wide : d.grid.width * d.factor ≡ d.source.width
  pub high : d.grid.height * d.factor ≡ d.source.height
  pub few_columns : d.grid.width ≤ limit
  pub few_lines : d.grid.height ≤ limit

pub at_most : (a k n m : ℕ) → 0 < k → a * k ≡ n → n ≤ m → a ≤ m
at_most a k n m h e l = omega (arith, mul-le-mul_left a h, mul-one a)

pub framed : (d : Decimation) → valid_decimation d ≡ true → Framed d
unfolding coarse_grid coarsened
framed d e =
    let p = valid_parts d e in
    let z = same_sizes d.grid (coarse_grid d.source d.factor) p.same in
    let f = on_factor d.source d.factor (parts d.source d.factor p.factored).0 in
    let s = grid_sized d.source p.source in
    let wide : d.grid.width * d.factor ≡ d.source.width = rw z.0 f.wide in
    let high : d.grid.height * d.factor ≡ d.source.height = rw z.1 f.high in
    record {
      some = f.some;
      columns = s.columns;
      lines = s.lines;
      wide = wide;
      high = high;
      few_columns = at_most d.grid.width d.factor d.source.width limit f.some wide s.columns;
      few_lines = at_most d.grid.height d.factor d.source.height limit f.some high s.lines;
    }

-- ---- a decimation that was made

pub record Made (g : Grid) (k : ℕ) (d : Decimation) : Type 0 where
  pub source : valid_grid g ≡ true
  pub factored : factor_refusal g k ≡ 0
  pub is : d ≡ decimation_of g k
  pub grid : coarse_grid g k ≡ d.grid
  pub valid : valid_decimation d ≡ true

pub decimation_made : (g : Grid) (k : ℕ) (d : Decimation) → decimation_new g k ≡ answered d → Made g k d
unfolding decimation_new
decimation_made g k d e =
    let p = answered_passed (first (not (valid_grid g)) not_its_makers (factor_refusal g k)) (decimation_of g k) d e in
    let q = first_passed (not (valid_grid g)) not_its_makers (factor_refusal g k) tt p.0 in
    let v = not-false (valid_grid g) q.0 in
    record {
      source = v;
      factored = q.1;
      is = sym p.1;
      grid = ap (λ (x : Decimation). x.grid) p.1;
      valid = rw (← p.1) (decimation_valid g k v q.1);
    }
