-- Document 01, 'When a call refuses': a grid's 1 to 9, each alone and beside a later cause, and what just passes.
use Rattle.std.specs.Prelude.{ℕ, false, List, [], ◌∷◌, Float}
use Rattle.std.specs.Float.{nan, inf, binary64}
use Rattle.std.specs.Float.Ieee.{neg, of_bits}
use Rattle.float.specs.Constants.{f64zero, f64p90, f64p91}
use Rattle.grid.specs.Grid.{tolerance, grid_new}
use Rattle.cases.specs.Cases.{Case, number_of}

-- the number that a grid of so many columns and rows, with that origin and those steps, is refused with; 0 where it is made
abbrev made : ℕ → ℕ → Float → Float → Float → Float → ℕ
made width height lat lon lonStep latStep =
    number_of (grid_new (record { width = width; height = height; lat = lat; lon = lon; lon_step = lonStep; lat_step = latStep }))

-- .. of that size from 90, 0 on with steps of 90 and −90; of 4 by 1 from another origin; of 4 by 1 with other steps
abbrev sized : ℕ → ℕ → ℕ
sized width height = made width height f64p90 f64zero f64p90 (neg f64p90)

abbrev from : Float → Float → ℕ
from lat lon = made 4 1 lat lon f64p90 (neg f64p90)

abbrev stepping : Float → Float → ℕ
stepping lonStep latStep = made 4 1 f64p90 f64zero lonStep latStep

abbrev pub grids : List Case
grids =
    -- 1: no columns, no rows, and too many of the other
    record { gives = sized 0 2 ∷ sized 4 0 ∷ sized 0 1048577 ∷ sized 1048577 0 ∷ []; says = 1 ∷ 1 ∷ 1 ∷ 1 ∷ [] }
    -- 2: too many columns, too many rows, and an origin that is not finite
    ∷ record { gives = sized 1048577 2 ∷ sized 4 1048577 ∷ made 1048577 2 nan f64zero f64p90 (neg f64p90) ∷ []; says = 2 ∷ 2 ∷ 2 ∷ [] }
    -- 3: a latitude or a longitude that is not finite, though infinity is past 90
    ∷ record { gives = from nan f64zero ∷ from f64zero nan ∷ from (inf false) f64zero ∷ []; says = 3 ∷ 3 ∷ 3 ∷ [] }
    -- 4: past 90 north or south, and a step that is not finite
    ∷ record { gives = from f64p91 f64zero ∷ from (neg f64p91) f64zero ∷ made 4 2 f64p91 f64zero nan (neg f64p90) ∷ []; says = 4 ∷ 4 ∷ 4 ∷ [] }
    -- 5: either step, and the other 0
    ∷ record { gives = stepping (inf false) (neg f64p90) ∷ stepping f64p90 nan ∷ stepping nan f64zero ∷ []; says = 5 ∷ 5 ∷ 5 ∷ [] }
    -- 6: either step, −0.0 too, and the other northward
    ∷ record { gives = stepping f64zero (neg f64p90) ∷ stepping f64p90 (neg f64zero) ∷ stepping f64zero f64p90 ∷ []; says = 6 ∷ 6 ∷ 6 ∷ [] }
    -- 7: a northward step, and more than a full turn
    ∷ record { gives = stepping f64p90 f64p90 ∷ stepping f64p91 f64p90 ∷ []; says = 7 ∷ 7 ∷ [] }
    -- 8: three rows of 90 from the pole, and more than a full turn
    ∷ record { gives = sized 4 3 ∷ sized 5 3 ∷ []; says = 8 ∷ 8 ∷ [] }
    -- 9: five columns of 90 to the east, four of 91 to the west
    ∷ record { gives = sized 5 2 ∷ stepping (neg f64p91) (neg f64p90) ∷ []; says = 9 ∷ 9 ∷ [] }
    -- an edge 1e-9 past the pole and a span of 360 + 1e-9 pass, the next edge and the next span don't
    ∷ record {
      gives =
          made 4 1 (neg f64p90) f64zero f64p90 (neg tolerance)
          ∷ made 4 1 (neg f64p90) f64zero f64p90 (neg (of_bits binary64 0x3e11_2e18_0000_0000))
          ∷ made 1 1 f64p90 f64zero (of_bits binary64 0x4076_8000_0000_44b8) (neg f64p90)
          ∷ made 1 1 f64p90 f64zero (of_bits binary64 0x4076_8000_0000_44b9) (neg f64p90) ∷ [];
      says = 0 ∷ 8 ∷ 0 ∷ 9 ∷ [];
    }
    ∷ []
