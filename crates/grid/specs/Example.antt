-- Document 01, 'Bench cases': the grid of its own example, for laws that compute it.
use Rattle.std.specs.Prelude.{Float}
use Rattle.std.specs.Float.Ieee.{neg}
use Rattle.float.specs.Constants.{f64p180, f64p90}
use Rattle.grid.specs.declared.Grid.{Grid}

-- 4 by 2 around the globe, from latitude 90 and a longitude, steps 90 and −90
abbrev pub globe_from : Float → Grid
globe_from lon = record { width = 4; height = 2; lat = f64p90; lon = lon; lon_step = f64p90; lat_step = neg f64p90 }

-- the example's longitude is −180
abbrev pub example_grid : Grid
example_grid = globe_from (neg f64p180)
