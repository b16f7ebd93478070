-- Document 01's [P] cases: the definitions give what the paper says, in every row of the table. Assumes nothing.
use mathlib.Core.Path.{◌≡◌, refl}
use mathlib.Core.List.{map}
use lib.Ieee.{sub, mul, le, of_int, of_bits, to_bits}
use Rattle.float.specs.Float.{larger}
use Rattle.float.specs.TwoSum.{two_sum}
use Rattle.raster.specs.Raster.{kind_of}
use Rattle.radius.specs.Radius.{radius_refusal, valid_radius, widened, widened_by}
use Rattle.geodesy.specs.Sphere.{wrap_lon}
use Rattle.grid.specs.Grid.{grid_refusal, grid_new, valid_grid, same_grid}
use Rattle.grid.specs.Lookup.{col_along, col_along_call}
use Rattle.layout.specs.Entries.{entries}
use Rattle.layout.specs.Place.{payload_length, corner, right_table, in_blocks}
use Rattle.layout.specs.Rows.{row_corner}
use Rattle.layout.specs.Written.{cleared_table, laid_row}
use Rattle.layout.specs.Map.{to_blocks}
use Rattle.table.specs.Rectangle.{rectangle_sum, rectangle_refusal, rectangle_population}
use Rattle.decimation.specs.Decimation.{decimation_new, valid_decimation}
use Rattle.sweep.specs.Sweep.{taken_in, acc_after, corr_after}
use Rattle.builder.specs.Rows.{coarse_filled, handed_on}
use Rattle.builder.specs.Build.{valid_builder, start_refusal, first_builder, cleared_buffers, start_call}
use Rattle.builder.specs.Build.{row_refusal, builder_after, coarse_after, table_after, buffers_after, row_call}
use Rattle.cases.specs.Cases.{example_table, table}

pub every_case : map (λ c. c.gives) table ≡ map (λ c. c.says) table
unfolding sub mul le of_int of_bits to_bits larger two_sum kind_of radius_refusal valid_radius widened widened_by wrap_lon grid_refusal grid_new valid_grid same_grid
    col_along col_along_call entries payload_length corner right_table in_blocks row_corner cleared_table laid_row to_blocks rectangle_sum rectangle_refusal
    rectangle_population decimation_new valid_decimation taken_in acc_after corr_after coarse_filled handed_on valid_builder start_refusal first_builder
    cleared_buffers start_call row_refusal builder_after coarse_after table_after buffers_after row_call example_table
every_case = refl
