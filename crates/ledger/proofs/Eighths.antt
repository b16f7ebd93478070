-- Document 02, C-23, worked out at s = 3: eighths of a person on 8 by 2 cells, across the seam, at factors 1 and 2. Assumes nothing.
use Prim.Native.Nat.{ℕ, zero, suc, ◌≤◌, ◌<◌}
use native.Mathlib.Omega.{arith}
use mathlib.Core.Path.{◌≡◌, refl}
use mathlib.Core.List.{List, [], ◌∷◌}
use lib.Dec.{lit≤}
use lib.ListN.{get_or, replicate}
use lib.Ieee.{nan, binary64, of_bits, neg, add, sub, mul, lt, le, eq, of_int, round}
use Rattle.refusal.specs.Refusal.{answered}
use Rattle.float.specs.Constants.{f64p90, f64p180}
use Rattle.geodesy.specs.Sphere.{wrap_lon}
use Rattle.grid.specs.declared.Grid.{Grid}
use Rattle.grid.specs.Grid.{grid_refusal, valid_grid}
use Rattle.raster.specs.Raster.{kind_of}
use Rattle.exact.specs.Units.{unit_count, f64units, Exactly}
use Rattle.layout.specs.Place.{payload_length}
use Rattle.decimation.specs.Decimation.{coarse_grid, factor_refusal}
use Rattle.builder.specs.Build.{Buffers, buffers, lent_refusal, start_refusal, first_builder, start_call}
use Rattle.table.specs.Rectangle.{row_band, rectangle_population}
use Rattle.circle.specs.Circle.{circle_population}
use Rattle.area.specs.Area.{counted, sum_of_rows, in_span, in_rectangle, in_row, in_circle}
use Rattle.area.proofs.Asked.{through}
use Rattle.ledger.specs.Ledger.{Call, row, finish, Ledger, opened, ledger_refusal, ledger_step, ledger_after, sum_in, WholeAndSmall}
use Rattle.ledger.specs.Counter.{Counter, counter_after, total}
use Rattle.ledger.specs.Claim.{Counts, covered_in, Faithful}
use Rattle.ledger.proofs.Cells.{rows_of_units}
use Rattle.ledger.proofs.Theorem.{demand_3}
use Rattle.ledger.proofs.Examples.{kernel, kernel_on}

-- around the globe from latitude 90 and longitude −180, steps 45 and −90
grid : Grid
grid = record {
  width = 8;
  height = 2;
  lat = f64p90;
  lon = neg f64p180;
  lon_step = of_bits binary64 0x4046_8000_0000_0000;
  lat_step = neg f64p90;
}

-- a sixteenth, which is no eighth
mark : ℕ
mark = 0x3d80_0000

-- as lent: 1/8 2.5 −1/16 2 +infinity 0 1/2 3/8, and NaN 1/16 7/8 −0.0 10 1 1/16 1/4
calls : List Call
unfolding mark
calls =
    row (0x3e00_0000 ∷ 0x4020_0000 ∷ 0xbd80_0000 ∷ 0x4000_0000 ∷ 0x7f80_0000 ∷ 0 ∷ 0x3f00_0000 ∷ 0x3ec0_0000 ∷ [])
    ∷ row (0x7fc0_0000 ∷ mark ∷ 0x3f60_0000 ∷ 0x8000_0000 ∷ 0x4120_0000 ∷ 0x3f80_0000 ∷ mark ∷ 0x3e80_0000 ∷ [])
    ∷ finish ∷ []

after : Ledger
unfolding grid mark calls
after = ledger_after grid mark opened calls

-- sanitised, every cell is so many eighths, and all are at most 2 ^ 50 people
eighths : WholeAndSmall 3 after
unfolding grid mark calls after ledger_step ledger_refusal kind_of lt eq of_bits unit_count f64units round sum_of_rows
eighths =
    let ns : List (List ℕ) = (1 ∷ 20 ∷ 0 ∷ 16 ∷ 0 ∷ 0 ∷ 4 ∷ 3 ∷ []) ∷ (0 ∷ 0 ∷ 7 ∷ 0 ∷ 80 ∷ 8 ∷ 0 ∷ 2 ∷ []) ∷ [] in
    record { whole = rows_of_units 3 (lit≤ tt) after.cells ns refl (lit≤ tt); small = lit≤ tt }

-- ---- the two counters

lent₁ : Buffers
lent₁ = buffers (replicate 9 nan) (replicate 9 nan) (replicate 9 nan) (replicate 128 nan)

lent₂ : Buffers
lent₂ = buffers (replicate 9 nan) (replicate 9 nan) (replicate 5 nan) (replicate 64 nan)

start₁ : (start_call grid 1 mark lent₁).answer ≡ answered (first_builder grid 1 mark)
unfolding grid mark lent₁ start_call start_refusal valid_grid grid_refusal factor_refusal coarse_grid lent_refusal payload_length wrap_lon le lt eq neg add sub mul
    of_int of_bits
start₁ = refl

start₂ : (start_call grid 2 mark lent₂).answer ≡ answered (first_builder grid 2 mark)
unfolding grid mark lent₂ start_call start_refusal valid_grid grid_refusal factor_refusal coarse_grid lent_refusal payload_length wrap_lon le lt eq neg add sub mul
    of_int of_bits
start₂ = refl

abbrev started₁ : Counter
started₁ = record { builder = first_builder grid 1 mark; lent = (start_call grid 1 mark lent₁).buffers }

abbrev started₂ : Counter
started₂ = record { builder = first_builder grid 2 mark; lent = (start_call grid 2 mark lent₂).buffers }

both : Faithful 3 grid 1 mark started₁ calls × Faithful 3 grid 2 mark started₂ calls
both = demand_3 3 (lit≤ tt) grid 2 mark lent₁ lent₂ (first_builder grid 1 mark) (first_builder grid 2 mark) start₁ start₂ calls

counter₁ : Counter
counter₁ = counter_after started₁ calls

counter₂ : Counter
counter₂ = counter_after started₂ calls

-- ---- each total is 141 eighths

sum : sum_in 3 after ≡ 141
unfolding grid mark calls after ledger_step ledger_refusal kind_of lt eq of_bits unit_count sum_of_rows
sum = refl

total₁ : Exactly 3 141 (total counter₁)
unfolding counter₁ after
total₁ = rw sum at (both.0.after.sum eighths)

total₂ : Exactly 3 141 (total counter₂)
unfolding counter₂ after
total₂ = rw sum at (both.1.after.sum eighths)

-- ---- across the seam

-- row 0 from column 7 on to column 1 has 24 eighths: three whole people
seam₁_covers : covered_in 3 grid after (in_rectangle 1 0 0 (in_span (through 7 1))) ≡ 24
unfolding grid mark calls after ledger_step ledger_refusal kind_of lt eq of_bits unit_count counted in_span
seam₁_covers = refl

seam₁ : Counts 3 24 (rectangle_population (coarse_grid grid 1) counter₁.lent.table (row_band 0 0) (through 7 1))
unfolding grid mark calls counter₁ after coarse_grid ledger_step ledger_refusal
seam₁ = rw seam₁_covers at (both.0.after.rectangle eighths refl (row_band 0 0) (through 7 1) (lit≤ tt) (lit≤ tt) (lit≤ tt, lit≤ tt))

-- at factor 2 column 3 on to column 0, which are source columns 6, 7, 0 and 1 of both rows
seam₂_covers : covered_in 3 grid after (in_rectangle 2 0 0 (in_span (through 3 0))) ≡ 30
unfolding grid mark calls after ledger_step ledger_refusal kind_of lt eq of_bits unit_count counted in_span
seam₂_covers = refl

seam₂ : Counts 3 30 (rectangle_population (coarse_grid grid 2) counter₂.lent.table (row_band 0 0) (through 3 0))
unfolding grid mark calls counter₂ after coarse_grid ledger_step ledger_refusal
seam₂ = rw seam₂_covers at (both.1.after.rectangle eighths refl (row_band 0 0) (through 3 0) (lit≤ tt) (lit≤ tt) (lit≤ tt, lit≤ tt))

-- a circle around column 0, at factor 1 with half-width 1 in row 0 and 2 in row 1
circle₁_covers : covered_in 3 grid after (in_circle 1 8 0 2 0 (1 ∷ 2 ∷ [])) ≡ 33
unfolding grid mark calls after ledger_step ledger_refusal kind_of lt eq of_bits unit_count counted in_row
circle₁_covers = refl

circle₁ : Counts 3 33 (circle_population (coarse_grid grid 1) counter₁.lent.table (kernel (coarse_grid grid 1) 2) (1 ∷ 2 ∷ []) (record { 0 = 0 }))
unfolding grid mark calls counter₁ after grid_refusal coarse_grid wrap_lon ledger_step ledger_refusal le lt eq neg add sub mul of_int of_bits
circle₁ =
    let on = kernel_on (coarse_grid grid 1) 2 (1 ∷ 2 ∷ []) refl refl (lit≤ tt) (lit≤ tt) narrow in
    rw circle₁_covers at (both.0.after.circle eighths refl (kernel (coarse_grid grid 1) 2) (1 ∷ 2 ∷ []) (record { 0 = 0 }) on (lit≤ tt))
  where
    narrow : (i : ℕ) → i < 2 → get_or (1 ∷ 2 ∷ []) i 0 ≤ 4
    narrow zero q = lit≤ tt
    narrow (suc zero) q = lit≤ tt
    narrow (suc (suc i)) q = absurd (omega arith)

-- and at factor 2 with half-width 1, which are source columns 6, 7 and 0 to 3 of both rows
circle₂_covers : covered_in 3 grid after (in_circle 2 4 0 1 0 (1 ∷ [])) ≡ 53
unfolding grid mark calls after ledger_step ledger_refusal kind_of lt eq of_bits unit_count counted in_row
circle₂_covers = refl

circle₂ : Counts 3 53 (circle_population (coarse_grid grid 2) counter₂.lent.table (kernel (coarse_grid grid 2) 1) (1 ∷ []) (record { 0 = 0 }))
unfolding grid mark calls counter₂ after grid_refusal coarse_grid wrap_lon ledger_step ledger_refusal le lt eq neg add sub mul of_int of_bits
circle₂ =
    let on = kernel_on (coarse_grid grid 2) 1 (1 ∷ []) refl refl (lit≤ tt) (lit≤ tt) (λ i q. let first : i ≡ 0 = omega arith in rw first (lit≤ tt)) in
    rw circle₂_covers at (both.1.after.circle eighths refl (kernel (coarse_grid grid 2) 1) (1 ∷ []) (record { 0 = 0 }) on (lit≤ tt))
