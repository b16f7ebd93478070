-- Document 02 worked. Assumes nothing.
use mathlib.Core.Path.{◌≡◌, refl}
use mathlib.Core.Bool.{true, false}
use mathlib.Core.List.{[], ◌∷◌, map}
use Prim.Native.Nat.{ℕ}
use Rattle.sections.specs.Sections.{section_refusal}
use Rattle.grid.specs.declared.Grid.{Grid}
use Rattle.grid.specs.Example.{example_grid}
use Rattle.layout.specs.Place.{payload_length}
use Rattle.decimation.specs.Decimation.{decimation_of}
use Rattle.card.specs.declared.Header.{Header}
use Rattle.card.specs.Card.{row_bytes, circle_bytes, table_too_large}

-- ---- C-17: the sections of document 01's own card, 176 bytes, at other places. Its rows have 32 bytes

-- rows at r, n circles at c
abbrev placed : ℕ → ℕ → ℕ → Header
placed r n c = record { decimation = decimation_of example_grid 1; nodata = 0; rows_at = r; circles = n; circles_at = c }

-- the number that its sections give
abbrev number : ℕ → ℕ → ℕ → ℕ
number r n c = section_refusal 176 (row_bytes (placed r n c)) (circle_bytes (placed r n c))

-- they touch: circles behind the rows, ahead of them; and with a byte between
touching : number 64 5 96 ∷ number 144 5 64 ∷ number 65 4 98 ∷ [] ≡ 0 ∷ 0 ∷ 0 ∷ []
touching = refl

-- one byte in two sections, at the rows' end and at their start
one_byte : number 64 5 95 ∷ number 143 5 64 ∷ [] ≡ 32 ∷ 32 ∷ []
one_byte = refl

-- circles in the rows, rows in the circles, the same bytes
contained : number 64 1 72 ∷ number 80 5 64 ∷ number 64 2 64 ∷ [] ≡ 32 ∷ 32 ∷ 32 ∷ []
contained = refl

-- over the header's last byte, and over its first: the rows, the circles
over_header : number 63 5 96 ∷ number 0 5 96 ∷ number 112 2 63 ∷ number 96 1 0 ∷ [] ≡ 32 ∷ 32 ∷ 32 ∷ 32 ∷ []
over_header = refl

-- no circles: at 0, in the header, in the rows, at the end; one past it is 25
no_circles : number 64 0 0 ∷ number 64 0 40 ∷ number 64 0 80 ∷ number 64 0 176 ∷ number 64 0 177 ∷ [] ≡ 0 ∷ 0 ∷ 0 ∷ 0 ∷ 25 ∷ []
no_circles = refl

-- 25 comes first: circles over the rows, and rows over the header, with circles past the end
ends_first : number 80 5 97 ∷ number 63 0 177 ∷ number 145 5 80 ∷ [] ≡ 25 ∷ 25 ∷ 25 ∷ []
ends_first = refl

-- ---- C-16: 27 by the source table's payload length

abbrev sized : ℕ → ℕ → Grid
sized width height = record {
  width = width;
  height = height;
  lat = example_grid.lat;
  lon = example_grid.lon;
  lon_step = example_grid.lon_step;
  lat_step = example_grid.lat_step;
}

-- 1,023 columns pass with up to 7 rows, and 1,023 rows with up to 7 columns
passes : map table_too_large (sized 1023 1 ∷ sized 1023 7 ∷ sized 1 1023 ∷ sized 7 1023 ∷ sized 95 79 ∷ []) ≡ false ∷ false ∷ false ∷ false ∷ false ∷ []
unfolding payload_length
passes = refl

-- one more does not, nor do 4,095 columns, whose table has 8,192 cells
too_large : map table_too_large (sized 1024 1 ∷ sized 1023 8 ∷ sized 1 1024 ∷ sized 8 1023 ∷ sized 4095 1 ∷ sized 89 90 ∷ [])
    ≡ true ∷ true ∷ true ∷ true ∷ true ∷ true ∷ []
unfolding payload_length
too_large = refl
