-- What an accepted card's decimation is, and how much of each buffer it takes: its source table has at most 8,192 places. Assumes nothing.
use mathlib.Core.Path.{◌≡◌, sym, subst}
use mathlib.Core.Bool.{true}
use mathlib.Core.List.{List}
use Prim.Native.Nat.{ℕ, ◌+◌, ◌*◌, ◌≤◌, ◌<◌, min}
use native.Mathlib.Nat.{le_refl}
use native.Mathlib.Numerals.{add-one}
use native.Mathlib.Omega.{arith}
use lib.ListN.{length, take, replicate, length-replicate}
use Rattle.std.proofs.lemmas.List.{take-replicate}
use lib.Seq.{length-take-le}
use lib.Ieee.{Float}
use Rattle.float.specs.Float.{f64zero}
use Rattle.grid.specs.Grid.{valid_grid}
use Rattle.grid.proofs.Valid.{grid_sized}
use Rattle.layout.specs.Place.{payload_length}
use Rattle.layout.proofs.Places.{most, length_held, smaller_table, fewer_cells, few_columns, few_lines}
use Rattle.decimation.specs.declared.Decimation.{Decimation}
use Rattle.decimation.proofs.Factors.{Made, decimation_made, framed, at_most, coarse_valid}
use Rattle.card.specs.declared.Header.{Header}
use Rattle.card.specs.private.Accepted.{Accepted}
use Rattle.builder.specs.Build.{buffers}
use Rattle.report.specs.Printed.{empty_buffers}

-- ---- the front of a buffer

pub front_inside : {n m k : ℕ} → m ≡ k → n ≤ m → n ≤ k
front_inside e h = rw e at h

pub front_length : {A : Type 0} (l : List A) {n m : ℕ} → m ≡ length l → n ≤ m → n ≡ length (take n l)
front_length l {n} e h = sym (length-take-le n l (front_inside e h))

pub filled_length : {A : Type 0} {l : List A} (m : ℕ) (x : A) → l ≡ replicate m x → m ≡ length l
filled_length m x e = rw e (sym (length-replicate m x))

zeros_front : (l : List Float) (n m : ℕ) → l ≡ replicate m f64zero → n ≤ m → take n l ≡ replicate n f64zero
zeros_front l n m e h = rw e (take-replicate n m f64zero h)

-- ---- an accepted card

pub record Sizes (d : Decimation) : Type 0 where
  pub row : d.source.width ≤ 1024
  pub width : d.source.width + 1 ≤ 1024
  pub height : d.source.height < 1024
  pub cells : d.source.height * d.source.width ≤ 8192
  pub columns : d.grid.width + 1 ≤ 1024
  pub lines : d.grid.height ≤ 1024
  pub table : min (payload_length d.grid.width d.grid.height) most ≡ payload_length d.grid.width d.grid.height
  pub few : min (payload_length d.grid.width d.grid.height) most ≤ 8192

module _ {card : List ℕ} {h : Header} (a : Accepted card h) where
  abbrev d : Decimation
  d = h.decimation

  pub made : Made d.source d.factor d
  made = decimation_made d.source d.factor d a.made

  -- the coarse grid is one that its maker could give
  pub grid_valid : valid_grid d.grid ≡ true
  grid_valid =
      subst (λ (x : Decimation). valid_grid x.grid ≡ true) (sym made.is) (coarse_valid d.source d.factor made.source made.factored)

  pub sizes : Sizes d
  sizes =
      let f = framed d made.valid in
      let s = grid_sized d.source made.source in
      let narrower = at_most d.grid.width d.factor d.source.width d.source.width f.some f.wide (le_refl _) in
      let lower = at_most d.grid.height d.factor d.source.height d.source.height f.some f.high (le_refl _) in
      let width = few_columns d.source.width d.source.height a.small in
      let height = few_lines d.source.width d.source.height a.small in
      let small = smaller_table d.grid.width d.grid.height d.source.width d.source.height narrower lower in
      let held = length_held d.grid.width d.grid.height f.few_columns f.few_lines in
      record {
        row = omega (arith, width);
        width = omega (arith, width);
        height = height;
        cells = omega (arith, fewer_cells d.source.width d.source.height, a.small);
        columns = omega (arith, narrower, width);
        lines = omega (arith, lower, height);
        table = held;
        few = omega (arith, held, small, a.small);
      }

  -- a row, and a coarse row, are shorter than a buffer of 1,024
  pub narrow : d.source.width < 1024
  narrow = omega (arith, sizes.width)

  pub coarse_narrow : d.grid.width < 1024
  coarse_narrow = omega (arith, sizes.columns)

  -- the coarse table is no longer than a buffer of 8,192
  pub few_places : min (payload_length d.grid.width d.grid.height) most ≤ 8192
  few_places = sizes.few

  -- ---- the fronts of buffers of zeros are what a build begins with

  pub emptied : {acc corr coarse table : List Float} → acc ≡ replicate 1024 f64zero → corr ≡ replicate 1024 f64zero → coarse ≡ replicate 1024 f64zero
      → table ≡ (empty_buffers d).table
      → buffers (take (d.source.width + 1) acc) (take (d.source.width + 1) corr) (take (d.grid.width + 1) coarse) table ≡ empty_buffers d
  unfolding empty_buffers
  emptied p q r t =
      rw (
        zeros_front _ _ 1024 p sizes.width,
        zeros_front _ _ 1024 q sizes.width,
        zeros_front _ _ 1024 r sizes.columns,
        t,
        add-one d.source.width,
        add-one d.grid.width,
      )

  pub emptied_table : {table : List Float} {n : ℕ} → table ≡ replicate 8192 f64zero → n ≡ min (payload_length d.grid.width d.grid.height) most
      → take n table ≡ (empty_buffers d).table
  unfolding empty_buffers
  emptied_table p e = rw (e, zeros_front _ _ 8192 p sizes.few, sizes.table)
