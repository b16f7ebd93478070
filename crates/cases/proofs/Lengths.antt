-- 11, 29 and 30 come as document 02's C-13 says, in every row of the table. Assumes nothing.
use mathlib.Core.Path.{◌≡◌, refl}
use mathlib.Core.List.{map}
use lib.Ieee.{add, sub, mul, neg, lt, le, eq, of_int, of_bits, to_bits}
use Rattle.geodesy.specs.Sphere.{wrap_lon}
use Rattle.raster.specs.Raster.{kind_of}
use Rattle.grid.specs.Grid.{grid_refusal, valid_grid, same_grid}
use Rattle.layout.specs.Place.{payload_length}
use Rattle.decimation.specs.Decimation.{coarse_grid, factor_refusal, valid_decimation}
use Rattle.builder.specs.Build.{lent_refusal, valid_builder, start_refusal, first_builder, start_call, row_refusal, builder_after, row_call}
use Rattle.builder.specs.Build.{finish_refusal, finish_call}
use Rattle.cases.specs.Lengths.{lengths}

pub every_length : map (λ c. c.gives) lengths ≡ map (λ c. c.says) lengths
unfolding add sub mul neg lt le eq of_int of_bits to_bits wrap_lon kind_of grid_refusal valid_grid same_grid payload_length coarse_grid factor_refusal valid_decimation
    lent_refusal valid_builder start_refusal first_builder start_call row_refusal builder_after row_call finish_refusal finish_call
every_length = refl
