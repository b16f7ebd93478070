-- The cell that a lookup answers is on its grid. Assumes nothing.
use mathlib.Core.Path.{◌≡◌, refl, sym, ap, ◌∙◌}
use mathlib.Core.Bool.{Bool, true, false, not, cond, ◌&&◌, false≢true}
use Prim.Native.Nat.{ℕ, ◌*◌, ◌/◌, ◌<◌, ◌≤◌}
use native.Mathlib.Nat.{div-lt_iff_lt-mul, lt_of_mul-lt-mul_right, mul-one, mul_right_comm}
use native.Mathlib.Omega.{arith}
use borrow.Author.Tests.{ltb-true, not-false}
use lib.IntN.{ℤ}
use lib.Ieee.{Float, nan, inf, fin, binary64, up, down, lt, le, of_int, to_unsigned}
use lib.Ieee.Back.{round_whole}
use lib.Ieee.Exact.{HasValue}
use lib.Ieee.Fits.{down_pos}
use lib.Ieee.Scale.{finite}
use Rattle.refusal.specs.Refusal.{answered, in_no_cell, not_its_makers}
use Rattle.refusal.proofs.Chains.{never, went_past}
use Rattle.std.proofs.lemmas.Bool.{and_parts}
use Rattle.float.specs.Float.{f64zero, f64of, index_below}
use Rattle.std.specs.Prelude.{Option, Some, None}
use Rattle.geodesy.specs.declared.LatLon.{LatLon}
use Rattle.grid.specs.declared.Grid.{Grid}
use Rattle.grid.specs.Grid.{valid_grid, limit}
use Rattle.grid.specs.Lookup.{row_of_lat, col_of_lon, cell_at_index, cell_containing}
use Rattle.grid.proofs.Valid.{grid_sized}

-- ---- the whole part of a float

cut_below : (m : ℕ) (e : ℤ) (k : ℕ) (d : ℤ) (n : ℕ) → k * up d * 1 ≡ n * down d → m * up e * down d < k * up d * down e → m * up e / down e < n
cut_below m e k d n v l =
    let same : k * up d * down e ≡ n * down e * down d = rw (sym (mul-one (k * up d)) ∙ v) (mul_right_comm n (down d) (down e)) in
    (div-lt_iff_lt-mul (down_pos e)).1 (lt_of_mul-lt-mul_right (down d) (rw same at l))

-- the whole part of what is below a whole number is below it
whole_below : (x y : Float) (n : ℕ) → 0 < n → HasValue y false n 1 → lt x y ≡ true → to_unsigned 32 x < n
unfolding lt to_unsigned
whole_below nan y n p v l = p
whole_below (inf true) y n p v l = p
whole_below (inf false) nan n p v l = absurd v
whole_below (inf false) (inf t) n p v l = absurd v
whole_below (inf false) (fin t k d) n p v l = absurd (false≢true l)
whole_below (fin true m e) y n p v l = p
whole_below (fin false m e) nan n p v l = absurd v
whole_below (fin false m e) (inf t) n p v l = absurd v
whole_below (fin false m e) (fin true k d) n p v l = absurd (false≢true l)
whole_below (fin false m e) (fin false k d) n p v l = omega (arith, cut_below m e k d n v.1 (ltb-true _ _ l))

at_below : (t : Bool) (i j : ℕ) → cond t (Some i) None ≡ Some j → (t ≡ true) × (i ≡ j)
at_below true i j e = (refl, cc)
at_below false i j e =
    let z : ◌≡◌ {A = ℕ} 0 1 = cc in
    absurd (omega arith)

pub index_below_lem : (x : Float) (n i : ℕ) → 0 < n → n ≤ limit → index_below x n ≡ Some i → i < n
unfolding index_below of_int
index_below_lem x n i p h e =
    let q = at_below (le f64zero x && lt x (f64of n)) (to_unsigned 32 x) i e in
    rw (← q.1) (whole_below x (f64of n) n p (round_whole binary64 false n (omega arith)) (and_parts (le f64zero x) (lt x (f64of n)) q.0).1)

-- ---- a lookup

both_found : (r c : Option ℕ) (i j : ℕ) → cell_at_index r c ≡ answered (i, j) → (r ≡ Some i) × (c ≡ Some j)
both_found None c i j e = never e
both_found (Some r) None i j e = never e
both_found (Some r) (Some c) i j e =
    let p : ◌≡◌ {A = ℕ × ℕ} (r, c) (i, j) = cc in
    (ap (λ (x : ℕ × ℕ). Some x.0) p, ap (λ (x : ℕ × ℕ). Some x.1) p)

pub record CellOn (g : Grid) (row col : ℕ) : Type 0 where
  pub valid : valid_grid g ≡ true
  pub row_on : row < g.height
  pub col_on : col < g.width

pub cell_on : (g : Grid) (at : LatLon) (row col : ℕ) → cell_containing g at ≡ answered (row, col) → CellOn g row col
unfolding cell_containing row_of_lat col_of_lon
cell_on g at row col e =
    let p = went_past (not (valid_grid g)) not_its_makers _ _ e in
    let q = went_past (not (finite at.lat && finite at.lon)) in_no_cell _ _ p.1 in
    let v = not-false (valid_grid g) p.0 in
    let f = both_found (row_of_lat g at.lat) (col_of_lon g at.lon) row col q.1 in
    let s = grid_sized g v in
    record {
      valid = v;
      row_on = index_below_lem _ g.height row s.high s.lines f.0;
      col_on = index_below_lem _ g.width col s.wide s.columns f.1;
    }
