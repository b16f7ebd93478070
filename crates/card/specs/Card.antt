-- Document 01, 'The card': the header, its checks in their order, and the two sections.
use Rattle.std.specs.Prelude.{List, Bool, not, cond, ℕ, ◌+◌, ◌*◌, eqb, ltb, length}
use Rattle.refusal.specs.Refusal.{Outcome, refused, first, outcome, and_then, card_ends_early, card_word_not_zero, card_too_large}
use Rattle.sections.specs.declared.ByteRange.{ByteRange}
use Rattle.sections.specs.Sections.{section_refusal}
use Rattle.grid.specs.declared.Grid.{Grid}
use Rattle.grid.specs.Grid.{grid_new}
use Rattle.decimation.specs.declared.Decimation.{Decimation}
use Rattle.layout.specs.Place.{payload_length}
use Rattle.decimation.specs.Decimation.{decimation_new}
use Rattle.card.specs.Words.{u32_at, f64_at, words_at}
use Rattle.card.specs.declared.Header.{Header}
use Rattle.card.specs.declared.CardCircle.{CardCircle}

-- width u32 at 0, height 4, origin latitude f64 8, longitude 16, lon_step 24, lat_step 32
unfoldable pub grid_at : List ℕ → Grid
grid_at card =
    record { width = u32_at card 0; height = u32_at card 4; lat = f64_at card 8; lon = f64_at card 16; lon_step = f64_at card 24; lat_step = f64_at card 32 }

-- nodata bits u32 at 40, offset of rows 48, circle count 52, offset of circles 56
unfoldable pub header_at : List ℕ → Decimation → Header
header_at card d =
    record { decimation = d; nodata = u32_at card 40; rows_at = u32_at card 48; circles = u32_at card 52; circles_at = u32_at card 56 }

-- the bytes of the rows: f32, four bytes for each cell
abbrev pub row_bytes : Header → ByteRange
row_bytes h = record { start = h.rows_at; end = h.rows_at + 4 * (h.decimation.source.width * h.decimation.source.height) }

-- the bytes of the circles: 16 for each
abbrev pub circle_bytes : Header → ByteRange
circle_bytes h = record { start = h.circles_at; end = h.circles_at + 16 * h.circles }

-- 27 (table): the source table's payload length is over 8,192, whatever the factor (document 02, C-16)
abbrev pub table_too_large : Grid → Bool
table_too_large g = ltb 8192 (payload_length g.width g.height)

-- 27 (table), 25 (sections), 32
abbrev pub with_header : List ℕ → Grid → Header → Outcome Header
with_header card g h = outcome (first (table_too_large g) card_too_large (section_refusal (length card) (row_bytes h) (circle_bytes h))) h

-- 10 with the coarse grid's own 1 to 9 (factor u32 at 44), then those
abbrev pub with_grid : List ℕ → Grid → Outcome Header
with_grid card g = and_then (decimation_new g (u32_at card 44)) (λ d. with_header card g (header_at card d))

-- 27 (length), 25 (header), 26, 1 to 9, then those
unfoldable pub read_header : List ℕ → Outcome Header
read_header card =
    cond (ltb 65536 (length card)) (refused card_too_large)
    (cond (ltb (length card) 64) (refused card_ends_early)
    (cond (not (eqb (u32_at card 60) 0)) (refused card_word_not_zero)
    (and_then (grid_new (grid_at card)) (with_grid card))))

-- row i: width patterns of f32
unfoldable pub row_at : List ℕ → Header → ℕ → List ℕ
row_at card h i = words_at card (h.rows_at + 4 * (i * h.decimation.source.width)) h.decimation.source.width

-- circle i: row u32, column u32, radius f64
unfoldable pub circle_at : List ℕ → Header → ℕ → CardCircle
circle_at card h i =
    let at = h.circles_at + 16 * i in
    record { row = u32_at card at; col = u32_at card (at + 4); radius = f64_at card (at + 8) }
