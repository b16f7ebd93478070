-- Document 02, C-20: which grids are equal, and the 22 and 21 that come of it.
use Rattle.std.specs.Prelude.{ℕ, cond, List, [], ◌∷◌, replicate, Float}
use Rattle.std.specs.Float.{nan, binary64}
use Rattle.std.specs.Float.Ieee.{neg, of_bits}
use Rattle.float.specs.Float.{f64zero, f64one}
use Rattle.raster.specs.Raster.{no_tallies}
use Rattle.raster.specs.Example.{example_mark, first_row}
use Rattle.grid.specs.declared.Grid.{Grid}
use Rattle.grid.specs.Grid.{same_grid}
use Rattle.decimation.specs.Decimation.{coarse_grid}
use Rattle.builder.specs.Build.{buffers, row_call}
use Rattle.circle.specs.Circle.{circle_population}
use Rattle.cases.specs.Cases.{Case, number_of}

abbrev minus_zero : Float
minus_zero = neg f64zero

-- a grid of 4 columns and 2 rows of a degree from that origin, and one with those steps
abbrev from : Float → Float → Grid
from lat lon = record { width = 4; height = 2; lat = lat; lon = lon; lon_step = f64one; lat_step = neg f64one }

abbrev stepping : Float → Float → Grid
stepping lonStep latStep = record { width = 4; height = 2; lat = f64zero; lon = f64zero; lon_step = lonStep; lat_step = latStep }

-- and one of that size
abbrev sized : ℕ → ℕ → Grid
sized width height = record { width = width; height = height; lat = f64zero; lon = f64zero; lon_step = f64one; lat_step = neg f64one }

abbrev same : Grid → Grid → ℕ
same a b = cond (same_grid a b) 1 0

-- the number of a row call at factor 2 on a builder from 0.0, 0.0 on, whose coarse grid has that origin
abbrev row_on : Float → Float → ℕ
row_on lat lon =
    number_of (row_call (record {
      decimation = record { factor = 2; source = from f64zero f64zero; grid = coarse_grid (from lat lon) 2 };
      nodata = example_mark;
      rows = 0;
      digest = 0;
      tallies = no_tallies;
    }) first_row (buffers (replicate 5 f64zero) (replicate 5 f64zero) (replicate 3 f64zero) (replicate 64 f64zero))).answer

-- the number of a circle around that column of a table from 0.0, 0.0 on, with a kernel of one row whose grid has that origin
abbrev circle_on : Float → Float → ℕ → ℕ
circle_on lat lon column =
    number_of (circle_population (from f64zero f64zero) (replicate 64 f64zero) (record {
      grid = from lat lon;
      centre = record { 0 = 0 };
      radius = record { 0 = f64one };
      north = record { 0 = 0 };
      count = 1;
    }) (0 ∷ []) (record { 0 = column }))

abbrev pub equals : List Case
equals =
    -- the same bits, with zeros of either sign; every NaN is one
    record {
      gives =
          same (from f64zero f64zero) (from f64zero f64zero) ∷ same (from minus_zero minus_zero) (from minus_zero minus_zero)
          ∷ same (from nan f64zero) (from nan f64zero) ∷ [];
      says = 1 ∷ 1 ∷ 1 ∷ [];
    }
    -- another width, another height; a latitude and a longitude that differ in the last bit
    ∷ record {
      gives =
          same (sized 4 2) (sized 5 2) ∷ same (sized 4 2) (sized 4 3) ∷ same (from f64one f64one) (from (of_bits binary64 0x3ff0_0000_0000_0001) f64one)
          ∷ same (from f64one f64one) (from f64one (of_bits binary64 0x3ff0_0000_0000_0001)) ∷ [];
      says = 0 ∷ 0 ∷ 0 ∷ 0 ∷ [];
    }
    -- another sign of a zero: in the latitude, in the longitude, in both; in either step
    ∷ record {
      gives =
          same (from f64zero f64zero) (from minus_zero f64zero) ∷ same (from f64zero f64zero) (from f64zero minus_zero)
          ∷ same (from f64zero f64zero) (from minus_zero minus_zero) ∷ same (stepping f64zero f64one) (stepping minus_zero f64one)
          ∷ same (stepping f64one f64zero) (stepping f64one minus_zero) ∷ [];
      says = 0 ∷ 0 ∷ 0 ∷ 0 ∷ 0 ∷ [];
    }
    -- 22: a coarse grid is its source's at that factor only with the same zeros
    ∷ record {
      gives = row_on f64zero f64zero ∷ row_on minus_zero f64zero ∷ row_on f64zero minus_zero ∷ row_on minus_zero minus_zero ∷ [];
      says = 0 ∷ 22 ∷ 22 ∷ 22 ∷ [];
    }
    -- 21: likewise a kernel's grid and the table's; it comes ahead of a column off the grid, 16
    ∷ record {
      gives =
          circle_on f64zero f64zero 0 ∷ circle_on minus_zero f64zero 0 ∷ circle_on f64zero minus_zero 0 ∷ circle_on minus_zero minus_zero 0
          ∷ circle_on f64zero f64zero 4 ∷ circle_on minus_zero f64zero 4 ∷ [];
      says = 0 ∷ 21 ∷ 21 ∷ 21 ∷ 16 ∷ 21 ∷ [];
    }
    ∷ []
