-- Document 01, 'Building' (`Decimation::new` of table.rs): a factor and the grid that it makes of a source grid.
use Rattle.std.specs.Prelude.{Bool, not, ◌&&◌, ◌||◌, ℕ, ◌/◌, ◌%◌, eqb}
use Rattle.std.specs.Float.{binary64}
use Rattle.std.specs.Float.Ieee.{mul}
use Rattle.refusal.specs.Refusal.{Outcome, first, passed, outcome, factor_not_dividing, not_its_makers}
use Rattle.float.specs.Float.{f64of}
use Rattle.grid.specs.declared.Grid.{Grid}
use Rattle.grid.specs.Grid.{grid_refusal, valid_grid, same_grid, wrapped}
use Rattle.decimation.specs.declared.Decimation.{Decimation}

-- 10: factor 0 or not dividing both
abbrev pub off_factor : Grid → ℕ → Bool
off_factor g k = eqb k 0 || not (eqb (g.width % k) 0) || not (eqb (g.height % k) 0)

-- what the coarse grid is made from: dimensions / k, steps · k, the source's origin
unfoldable pub coarsened : Grid → ℕ → Grid
coarsened g k =
    record {
      width = g.width / k;
      height = g.height / k;
      lat = g.lat;
      lon = g.lon;
      lon_step = mul binary64 g.lon_step (f64of k);
      lat_step = mul binary64 g.lat_step (f64of k);
    }

-- the coarse grid, as `Grid::new` makes it
unfoldable pub coarse_grid : Grid → ℕ → Grid
unfolding coarsened
coarse_grid g k = wrapped (coarsened g k)

-- the decimation of a grid by a factor
abbrev pub decimation_of : Grid → ℕ → Decimation
decimation_of g k = record { factor = k; source = g; grid = coarse_grid g k }

-- 10, then the coarse grid's own 1 to 9
unfoldable pub factor_refusal : Grid → ℕ → ℕ
unfolding coarsened
factor_refusal g k = first (off_factor g k) factor_not_dividing (grid_refusal (coarsened g k))

-- `Decimation::new`: 22, 10, 1 to 9
unfoldable pub decimation_new : Grid → ℕ → Outcome Decimation
unfolding factor_refusal coarse_grid
decimation_new g k = outcome (first (not (valid_grid g)) not_its_makers (factor_refusal g k)) (decimation_of g k)

-- 22: a decimation that its maker could give: the source grid is one, the factor passes, and the coarse grid is the source's at that factor
unfoldable pub valid_decimation : Decimation → Bool
unfolding factor_refusal coarse_grid
valid_decimation d =
    valid_grid d.source && eqb (factor_refusal d.source d.factor) passed && same_grid d.grid (coarse_grid d.source d.factor)
