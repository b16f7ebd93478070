-- Grids are equal, and 22 and 21 come, as document 02's C-20 says, in every row of the table. Assumes nothing.
use mathlib.Core.Path.{◌≡◌, refl}
use mathlib.Core.List.{map}
use lib.Ieee.{add, sub, mul, neg, lt, le, eq, of_int, of_bits, to_bits}
use Rattle.geodesy.specs.Sphere.{wrap_lon}
use Rattle.radius.specs.Radius.{radius_refusal, valid_radius}
use Rattle.grid.specs.Grid.{grid_refusal, valid_grid, same_grid}
use Rattle.layout.specs.Place.{right_table}
use Rattle.decimation.specs.Decimation.{coarse_grid, valid_decimation}
use Rattle.builder.specs.Build.{valid_builder, row_refusal, row_call}
use Rattle.kernel.specs.Kernel.{valid_kernel}
use Rattle.circle.specs.Circle.{circle_refusal, circle_population}
use Rattle.cases.specs.Equal.{equals}

pub every_equal : map (λ c. c.gives) equals ≡ map (λ c. c.says) equals
unfolding add sub mul neg lt le eq of_int of_bits to_bits wrap_lon radius_refusal valid_radius grid_refusal valid_grid same_grid right_table coarse_grid
    valid_decimation valid_builder row_refusal row_call valid_kernel circle_refusal circle_population
every_equal = refl
