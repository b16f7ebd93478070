-- Document 01, 'The card': what `count` prints of a card, to the last byte.
use Rattle.std.specs.Prelude.{List, [], ◌++◌, not, ℕ, zero, suc, leb, replicate, Float}
use Rattle.std.specs.Float.Ieee.{lt}
use Rattle.std.specs.Float.Ieee.Scale.{finite}
use Rattle.refusal.specs.Refusal.{Outcome, answered, refused, first, passed, outcome, radius_not_finite, radius_below_zero, row_off_grid, columns_dont_close}
use Rattle.refusal.specs.Refusal.{column_off_grid}
use Rattle.float.specs.Float.{f64zero}
use Rattle.grid.specs.declared.Grid.{Grid}
use Rattle.grid.specs.declared.Row.{Row}
use Rattle.grid.specs.Lookup.{closes}
use Rattle.radius.specs.declared.RadiusKm.{RadiusKm}
use Rattle.decimation.specs.declared.Decimation.{Decimation}
use Rattle.builder.specs.declared.Builder.{Builder}
use Rattle.layout.specs.Place.{payload_length, corner}
use Rattle.builder.specs.Build.{Buffers, buffers, first_builder, cleared_buffers, builder_after, buffers_after, total_of}
use Rattle.kernel.specs.Kernel.{kernel_of, own_widths}
use Rattle.circle.specs.Circle.{circle_sum}
use Rattle.text.specs.Text.{refused_line, rows_line, cells_line, total_line, circle_line, circle_refused_line}
use Rattle.card.specs.Card.{read_header, row_at, circle_at}
use Rattle.card.specs.declared.Header.{Header}
use Rattle.card.specs.declared.CardCircle.{CardCircle}

-- ---- the build: a start on zeroed buffers, then every row

-- builder and buffers after the first n rows
pub record Building : Type 0 where
  pub builder : Builder
  pub lent : Buffers

-- buffers of the right lengths for a decimation, all +0.0
unfoldable pub empty_buffers : Decimation → Buffers
empty_buffers d =
    buffers (replicate (suc d.source.width) f64zero) (replicate (suc d.source.width) f64zero) (replicate (suc d.grid.width) f64zero)
    (replicate (payload_length d.grid.width d.grid.height) f64zero)

abbrev pub built_from : List ℕ → Header → ℕ → Building
built_from card h zero =
    record {
      builder = first_builder h.decimation.source h.decimation.factor h.nodata;
      lent = cleared_buffers h.decimation.grid (empty_buffers h.decimation);
    }
built_from card h (suc n) =
    record {
      builder = builder_after (built_from card h n).builder (row_at card h n);
      lent = buffers_after (built_from card h n).builder (row_at card h n) (built_from card h n).lent;
    }

-- ---- a circle, on the coarse grid

-- circle checks 18, 19, 15, 17, 16
unfoldable pub circle_checks : Grid → CardCircle → ℕ
circle_checks g c =
    first (not (finite c.radius)) radius_not_finite
    (first (lt c.radius f64zero) radius_below_zero
    (first (leb g.height c.row) row_off_grid
    (first (not (closes g)) columns_dont_close
    (first (leb g.width c.col) column_off_grid passed))))

-- the people in the circle: the sum over its kernel's rows, by their half-widths
unfoldable pub circle_count : Grid → List Float → CardCircle → Float
circle_count g cells c =
    let row : Row = record { 0 = c.row } in
    let radius : RadiusKm = record { 0 = c.radius } in
    circle_sum g.width (corner g.width cells) (kernel_of g row radius) (own_widths g row radius) c.col

-- ---- the text

-- `circle i people`, or `circle i refused n`
abbrev pub circle_text : ℕ → Outcome Float → List ℕ
circle_text i (answered people) = circle_line i people
circle_text i (refused n) = circle_refused_line i n

-- the lines of the first n circles
abbrev pub circles_text : List ℕ → Header → List Float → ℕ → List ℕ
circles_text card h cells zero = []
circles_text card h cells (suc n) =
    circles_text card h cells n
    ++ circle_text n (outcome (circle_checks h.decimation.grid (circle_at card h n)) (circle_count h.decimation.grid cells (circle_at card h n)))

-- rows, cells, total, circles; a bad card prints `refused n`
abbrev pub report_text : List ℕ → Outcome Header → List ℕ
report_text card (refused n) = refused_line n
report_text card (answered h) =
    let b = built_from card h h.decimation.source.height in
    rows_line h.decimation.source.height ++ cells_line b.builder.tallies ++ total_line (total_of b.builder b.lent)
    ++ circles_text card h b.lent.table h.circles

unfoldable pub printed : List ℕ → List ℕ
printed card = report_text card (read_header card)
