-- Document 01, 'Bench cases': the [P] cases as a table. A case is what the definitions give and what the paper says, both as lists of numbers:
-- floats as their bits, a refusal as its number, a kind of cell as its place in the record of tallies.
use Rattle.std.specs.Prelude.{ℕ, suc, List, [], ◌∷◌, map, negsuc, replicate, Float}
use Rattle.std.specs.Float.{binary64}
use Rattle.std.specs.Float.Ieee.{neg, of_bits, to_bits}
use Rattle.refusal.specs.Refusal.{Outcome, answered, refused}
use Rattle.float.specs.Float.{f64zero, f64one, f64of}
use Rattle.float.specs.TwoSum.{two_sum}
use Rattle.raster.specs.Raster.{kind_of}
use Rattle.raster.specs.Example.{example_mark, first_row, second_row, kind_number}
use Rattle.radius.specs.Radius.{widened_by}
use Rattle.grid.specs.declared.Grid.{Grid}
use Rattle.grid.specs.Grid.{f64p90, tolerance, grid_new}
use Rattle.grid.specs.Example.{example_grid}
use Rattle.grid.specs.Lookup.{col_along_call}
use Rattle.builder.specs.declared.Builder.{Builder}
use Rattle.layout.specs.Place.{payload_length}
use Rattle.layout.specs.Map.{to_blocks}
use Rattle.decimation.specs.Decimation.{coarse_grid, decimation_new}
use Rattle.builder.specs.Build.{Buffers, buffers, BuilderCall, start_call, row_call}
use Rattle.table.specs.Rectangle.{row_band, rectangle_population}
use Rattle.table.specs.declared.ColSpan.TheVariants.{Through}

pub record Case : Type 0 where
  pub gives : List ℕ
  pub says : List ℕ

abbrev pub bits_of : Float → ℕ
bits_of x = to_bits binary64 x

-- ---- document 01's own example: 4 by 2, origin 90, −180, steps 90, −90, nodata −9999, rows 1 2 3 4 / 5 −9999 −1 0

-- the call that follows on another's builder and buffers
abbrev pub next_on : Outcome Builder → Buffers → List ℕ → BuilderCall
next_on (answered b) m row = row_call b row m
next_on (refused n) m row = record { answer = refused n; buffers = m }

abbrev pub next : List ℕ → BuilderCall → BuilderCall
next row before = next_on before.answer before.buffers row

-- buffers of the example's lengths at a factor, all 1.0 before the start
abbrev pub lent_for : ℕ → Buffers
lent_for k =
    buffers (replicate 5 f64one) (replicate 5 f64one) (replicate (suc (coarse_grid example_grid k).width) f64one)
    (replicate (payload_length (coarse_grid example_grid k).width (coarse_grid example_grid k).height) f64one)

-- the example's table at a factor
unfoldable pub example_table : ℕ → List Float
example_table k = (next second_row (next first_row (start_call example_grid k example_mark (lent_for k)))).buffers.table

-- ---- answers as numbers

-- 0 and the value, or the refusal
abbrev pub outcome_bits : Outcome Float → List ℕ
outcome_bits (answered x) = 0 ∷ bits_of x ∷ []
outcome_bits (refused n) = n ∷ []

-- the refusal's number, and 0 for an answer
abbrev pub number_of : {A : Type 0} → Outcome A → ℕ
number_of (answered a) = 0
number_of (refused n) = n

-- 0 and the column, or the refusal
abbrev pub outcome_numbers : Outcome ℕ → List ℕ
outcome_numbers (answered n) = 0 ∷ n ∷ []
outcome_numbers (refused n) = n ∷ []

-- so many columns and rows of 1e-9 degrees
abbrev pub fine_grid : ℕ → ℕ → Grid
fine_grid width height =
    record { width = width; height = height; lat = f64p90; lon = f64zero; lon_step = tolerance; lat_step = neg tolerance }

abbrev pub table : List Case
table =
    -- two_sum(2^53, 1) = (2^53, 1)
    record {
      gives =
          bits_of (two_sum (of_bits binary64 0x4340_0000_0000_0000) f64one).sum
          ∷ bits_of (two_sum (of_bits binary64 0x4340_0000_0000_0000) f64one).dropped ∷ [];
      says = 0x4340_0000_0000_0000 ∷ 0x3ff0_0000_0000_0000 ∷ [];
    }
    -- the example's table, in row layout: 0 0 0 0 0 / 0 1 3 6 10 / 0 6 8 11 15
    ∷ record {
      gives = map bits_of (example_table 1);
      says = map bits_of (to_blocks 4 2 (map f64of (0 ∷ 0 ∷ 0 ∷ 0 ∷ 0 ∷ 0 ∷ 1 ∷ 3 ∷ 6 ∷ 10 ∷ 0 ∷ 6 ∷ 8 ∷ 11 ∷ 15 ∷ [])));
    }
    -- its factor 2: 0 0 0 / 0 8 15
    ∷ record { gives = map bits_of (example_table 2); says = map bits_of (to_blocks 2 1 (map f64of (0 ∷ 0 ∷ 0 ∷ 0 ∷ 8 ∷ 15 ∷ []))) }
    -- factor 0 or 3 there: 10
    ∷ record { gives = number_of (decimation_new example_grid 0) ∷ number_of (decimation_new example_grid 3) ∷ []; says = 10 ∷ 10 ∷ [] }
    -- row 0, west 3, east 0: 5
    ∷ record {
      gives = outcome_bits (rectangle_population example_grid (example_table 1) (row_band 0 0) (Through (record { 0 = 3 }) (record { 0 = 0 })));
      says = 0 ∷ 0x4014_0000_0000_0000 ∷ [];
    }
    -- width 4, column 1, offset −5: 0
    ∷ record { gives = outcome_numbers (col_along_call example_grid 1 (negsuc 4)); says = 0 ∷ 0 ∷ [] }
    -- −0.0 with that nodata: zero
    ∷ record { gives = kind_number (kind_of example_mark 0x8000_0000) ∷ []; says = 2 ∷ [] }
    -- nodata 0.0, cell 0.0: nodata
    ∷ record { gives = kind_number (kind_of 0 0) ∷ []; says = 0 ∷ [] }
    -- radius 5 widened by −7: 5
    ∷ record {
      gives = outcome_bits (widened_by (record { 0 = of_bits binary64 0x4014_0000_0000_0000 }) (neg (of_bits binary64 0x401c_0000_0000_0000)));
      says = 0 ∷ 0x4014_0000_0000_0000 ∷ [];
    }
    -- limit 1,048,576 passes 2, one more doesn't: the width, then the height
    ∷ record { gives = number_of (grid_new (fine_grid 1048576 1)) ∷ number_of (grid_new (fine_grid 1048577 1)) ∷ []; says = 0 ∷ 2 ∷ [] }
    ∷ record { gives = number_of (grid_new (fine_grid 1 1048576)) ∷ number_of (grid_new (fine_grid 1 1048577)) ∷ []; says = 0 ∷ 2 ∷ [] }
    ∷ []
