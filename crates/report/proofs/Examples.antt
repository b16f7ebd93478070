-- Document 01's own example card: its whole text, to the last byte, by computing the definitions. Assumes nothing.
use mathlib.Core.Path.{◌≡◌, refl}
use mathlib.Core.List.{List, [], ◌∷◌}
use Prim.Native.Nat.{ℕ}
use lib.Ieee.{of_bits, of_int, to_unsigned, add, sub, mul, div, rem, neg, lt, le, eq, is_nan}
use Rattle.float.specs.Float.{smaller, clamped}
use Rattle.remainder.specs.Remainder.{rem_euclid}
use Rattle.float.specs.TwoSum.{two_sum}
use Rattle.sqrt.specs.Sqrt.{root_units}
use Rattle.raster.specs.Raster.{kind_of}
use Rattle.stand_ins.specs.StandIns.{sine_term, sin_of, cosine_term, cos_of, arctan_term, arctan_series, halved, arctan_of, atan2_of, acos_of, to_radians, to_degrees}
use Rattle.geodesy.specs.Sphere.{wrap_lon, haversine, angle_of, distance_rad, central_angle_rad}
use Rattle.grid.specs.Grid.{grid_refusal, grid_new, valid_grid}
use Rattle.grid.specs.Lookup.{lat_at, closes, col_along}
use Rattle.layout.specs.Place.{payload_length, corner, in_blocks}
use Rattle.layout.specs.Written.{cleared_table, laid_row}
use Rattle.sweep.specs.Sweep.{taken_in, acc_after, corr_after}
use Rattle.builder.specs.Rows.{handed_on}
use Rattle.decimation.specs.Decimation.{decimation_new}
use Rattle.builder.specs.Build.{first_builder, cleared_buffers, builder_after, coarse_after, table_after, buffers_after}
use Rattle.table.specs.Rectangle.{rectangle_sum}
use Rattle.cap.specs.Walks.{climbed, descended, walked}
use Rattle.kernel.specs.Walks.{north_of, south_of}
use Rattle.cap.specs.Cap.{contained, reached, edge_ratio, edge_columns, estimated, half_width}
use Rattle.kernel.specs.Kernel.{cap_over, cap_at, row_reached, row_width, north_row, south_row, row_count, kernel_of, own_widths}
use Rattle.circle.specs.Circle.{span_around, circle_sum}
use Rattle.digits.specs.Digits.{shown}
use Rattle.text.specs.Text.{refused_line, rows_line, cells_line, total_line, circle_line, circle_refused_line}
use Rattle.card.specs.Words.{u32_at, u64_at}
use Rattle.card.specs.Card.{grid_at, header_at, read_header, row_at, circle_at}
use Rattle.report.specs.Printed.{empty_buffers, circle_checks, circle_count, printed}

-- 4 by 2, origin 90, -180, steps 90, -90, factor 1, nodata -9999
abbrev pub example : List ℕ
example =
    -- width, height
    4 ∷ 0 ∷ 0 ∷ 0 ∷ 2 ∷ 0 ∷ 0 ∷ 0
    -- origin
    ∷ 0 ∷ 0 ∷ 0 ∷ 0 ∷ 0 ∷ 128 ∷ 86 ∷ 64 ∷ 0 ∷ 0 ∷ 0 ∷ 0 ∷ 0 ∷ 128 ∷ 102 ∷ 192
    -- steps
    ∷ 0 ∷ 0 ∷ 0 ∷ 0 ∷ 0 ∷ 128 ∷ 86 ∷ 64 ∷ 0 ∷ 0 ∷ 0 ∷ 0 ∷ 0 ∷ 128 ∷ 86 ∷ 192
    -- nodata, factor
    ∷ 0 ∷ 60 ∷ 28 ∷ 198 ∷ 1 ∷ 0 ∷ 0 ∷ 0
    -- rows at 64, 5 circles at 96, zero
    ∷ 64 ∷ 0 ∷ 0 ∷ 0 ∷ 5 ∷ 0 ∷ 0 ∷ 0 ∷ 96 ∷ 0 ∷ 0 ∷ 0 ∷ 0 ∷ 0 ∷ 0 ∷ 0
    -- rows 1 2 3 4 / 5 -9999 -1 0
    ∷ 0 ∷ 0 ∷ 128 ∷ 63 ∷ 0 ∷ 0 ∷ 0 ∷ 64 ∷ 0 ∷ 0 ∷ 64 ∷ 64 ∷ 0 ∷ 0 ∷ 128 ∷ 64
    ∷ 0 ∷ 0 ∷ 160 ∷ 64 ∷ 0 ∷ 60 ∷ 28 ∷ 198 ∷ 0 ∷ 0 ∷ 128 ∷ 191 ∷ 0 ∷ 0 ∷ 0 ∷ 0
    -- circle (0,0,7000)
    ∷ 0 ∷ 0 ∷ 0 ∷ 0 ∷ 0 ∷ 0 ∷ 0 ∷ 0 ∷ 0 ∷ 0 ∷ 0 ∷ 0 ∷ 0 ∷ 88 ∷ 187 ∷ 64
    -- circle (0,2,1)
    ∷ 0 ∷ 0 ∷ 0 ∷ 0 ∷ 2 ∷ 0 ∷ 0 ∷ 0 ∷ 0 ∷ 0 ∷ 0 ∷ 0 ∷ 0 ∷ 0 ∷ 240 ∷ 63
    -- circle (1,3,0)
    ∷ 1 ∷ 0 ∷ 0 ∷ 0 ∷ 3 ∷ 0 ∷ 0 ∷ 0 ∷ 0 ∷ 0 ∷ 0 ∷ 0 ∷ 0 ∷ 0 ∷ 0 ∷ 0
    -- circle (0,0,20016)
    ∷ 0 ∷ 0 ∷ 0 ∷ 0 ∷ 0 ∷ 0 ∷ 0 ∷ 0 ∷ 0 ∷ 0 ∷ 0 ∷ 0 ∷ 0 ∷ 140 ∷ 211 ∷ 64
    -- circle (2,0,5)
    ∷ 2 ∷ 0 ∷ 0 ∷ 0 ∷ 0 ∷ 0 ∷ 0 ∷ 0 ∷ 0 ∷ 0 ∷ 0 ∷ 0 ∷ 0 ∷ 0 ∷ 20 ∷ 64
    ∷ []

abbrev pub text : List ℕ
text =
    -- rows 2
    114 ∷ 111 ∷ 119 ∷ 115 ∷ 32 ∷ 50 ∷ 10
    -- cells 1 1 1 5 0
    ∷ 99 ∷ 101 ∷ 108 ∷ 108 ∷ 115 ∷ 32 ∷ 49 ∷ 32 ∷ 49 ∷ 32 ∷ 49 ∷ 32 ∷ 53 ∷ 32 ∷ 48 ∷ 10
    -- total 15
    ∷ 116 ∷ 111 ∷ 116 ∷ 97 ∷ 108 ∷ 32 ∷ 49 ∷ 53 ∷ 10
    -- circle 0 7
    ∷ 99 ∷ 105 ∷ 114 ∷ 99 ∷ 108 ∷ 101 ∷ 32 ∷ 48 ∷ 32 ∷ 55 ∷ 10
    -- circle 1 3
    ∷ 99 ∷ 105 ∷ 114 ∷ 99 ∷ 108 ∷ 101 ∷ 32 ∷ 49 ∷ 32 ∷ 51 ∷ 10
    -- circle 2 0
    ∷ 99 ∷ 105 ∷ 114 ∷ 99 ∷ 108 ∷ 101 ∷ 32 ∷ 50 ∷ 32 ∷ 48 ∷ 10
    -- circle 3 15
    ∷ 99 ∷ 105 ∷ 114 ∷ 99 ∷ 108 ∷ 101 ∷ 32 ∷ 51 ∷ 32 ∷ 49 ∷ 53 ∷ 10
    -- circle 4 refused 15
    ∷ 99 ∷ 105 ∷ 114 ∷ 99 ∷ 108 ∷ 101 ∷ 32 ∷ 52 ∷ 32 ∷ 114 ∷ 101 ∷ 102 ∷ 117 ∷ 115 ∷ 101 ∷ 100 ∷ 32 ∷ 49 ∷ 53 ∷ 10
    ∷ []

pub example_text : printed example ≡ text
unfolding of_bits of_int to_unsigned add sub mul div rem neg lt le eq is_nan smaller clamped rem_euclid two_sum root_units kind_of sine_term sin_of cosine_term cos_of
    arctan_term arctan_series halved arctan_of atan2_of acos_of to_radians to_degrees wrap_lon haversine angle_of distance_rad central_angle_rad grid_refusal grid_new
    valid_grid lat_at closes col_along payload_length corner in_blocks cleared_table laid_row taken_in acc_after corr_after handed_on decimation_new first_builder
    cleared_buffers builder_after coarse_after table_after buffers_after rectangle_sum climbed descended walked north_of south_of cap_over contained reached
    edge_ratio edge_columns estimated half_width cap_at row_reached row_width north_row south_row row_count kernel_of own_widths span_around circle_sum shown
    refused_line rows_line cells_line total_line circle_line circle_refused_line u32_at u64_at grid_at header_at read_header row_at circle_at empty_buffers circle_checks
    circle_count printed
example_text = refl
