-- A grid's refusals are document 01's, in every row of the table. Assumes nothing.
use mathlib.Core.Path.{◌≡◌, refl}
use mathlib.Core.List.{map}
use lib.Ieee.{add, sub, mul, neg, lt, le, eq, of_int, of_bits}
use Rattle.geodesy.specs.Sphere.{wrap_lon}
use Rattle.grid.specs.Grid.{grid_refusal, grid_new}
use Rattle.cases.specs.Grids.{grids}

pub every_grid : map (λ c. c.gives) grids ≡ map (λ c. c.says) grids
unfolding add sub mul neg lt le eq of_int of_bits wrap_lon grid_refusal grid_new
every_grid = refl
