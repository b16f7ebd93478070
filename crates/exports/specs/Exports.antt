-- What the functions under C names answer: a call's definition in its own crate, on these records, turned into one number.
use Rattle.std.specs.Prelude.{ℕ, ◌+◌, Float}
use Rattle.std.specs.Float.{binary64}
use Rattle.std.specs.Float.Ieee.{add, neg, of_bits}
use Rattle.refusal.specs.Refusal.{Outcome, answered, refused}
use Rattle.float.specs.Constants.{f64one, f64p90, f64p180}
use Rattle.float.specs.TwoSum.{two_sum}
use Rattle.radius.specs.declared.RadiusKm.{RadiusKm}
use Rattle.raster.specs.Raster.{no_tallies}
use Rattle.grid.specs.declared.Grid.{Grid}
use Rattle.grid.specs.declared.Row.{Row}
use Rattle.grid.specs.declared.Col.{Col}
use Rattle.table.specs.declared.RowBand.{RowBand}
use Rattle.table.specs.declared.ColSpan.{ColSpan}
use Rattle.table.specs.declared.ColSpan.TheVariants.{Through}
use Rattle.builder.specs.declared.Builder.{Builder}
use Rattle.kernel.specs.declared.Kernel.{Kernel}

-- ---- an answer as one number

-- the number, or −1 where the call is refused
abbrev pub or_minus_one : Outcome Float → Float
or_minus_one (answered x) = x
or_minus_one (refused n) = neg f64one

-- the digest after the row, or the refusal's number
abbrev pub digest_or_refusal : Outcome Builder → ℕ
digest_or_refusal (answered b) = b.digest
digest_or_refusal (refused n) = n

-- the kernel's north row, or 2^32 and the refusal's number
abbrev pub north_or_refusal : Outcome Kernel → ℕ
north_or_refusal (answered k) = k.north.0
north_or_refusal (refused n) = 0x1_0000_0000 + n

-- a rounded sum, to which what the rounding dropped is added
unfoldable pub both_parts : Float → Float → Float
both_parts a b = add binary64 (two_sum a b).sum (two_sum a b).dropped

-- ---- the records that the numbers given stand for

-- a row by its number
abbrev pub row_of : ℕ → Row
row_of n = record { 0 = n }

-- a column by its number
abbrev pub col_of : ℕ → Col
col_of n = record { 0 = n }

-- a radius by its kilometres
abbrev pub radius_of : Float → RadiusKm
radius_of km = record { 0 = km }

-- 0.3515625, 1,024 of which are 360
abbrev pub wide_step : Float
wide_step = of_bits binary64 0x3fd6_8000_0000_0000

-- 0.2
abbrev pub fifth : Float
fifth = of_bits binary64 0x3fc9_9999_9999_999a

-- 1,024 columns around the globe, and two rows
unfoldable pub wide_grid : Grid
wide_grid =
    record { width = 1024; height = 2; lat = f64p90; lon = neg f64p180; lon_step = wide_step; lat_step = neg f64p90 }

-- a builder over it at factor 1 that has no row yet; its mark is the f32 −9999
unfoldable pub wide_builder : ℕ → Builder
wide_builder digest =
    record {
      decimation = record { factor = 1; source = wide_grid; grid = wide_grid };
      nodata = 0xc61c_3c00;
      rows = 0;
      digest = digest;
      tallies = no_tallies;
    }

-- cells of a fifth of a degree: 1,800 columns and 900 rows
unfoldable pub globe : Grid
globe = record { width = 1800; height = 900; lat = f64p90; lon = neg f64p180; lon_step = fifth; lat_step = neg fifth }

-- a kernel of the globe by its north row and its count of rows, which are all that a circle goes by
unfoldable pub globe_kernel : ℕ → ℕ → Kernel
globe_kernel north count =
    record { grid = globe; centre = row_of north; radius = radius_of f64one; north = row_of north; count = count }

-- rows north to south
abbrev pub band_of : ℕ → ℕ → RowBand
band_of north south = record { north = row_of north; south = row_of south }

-- columns west through east
abbrev pub through_of : ℕ → ℕ → ColSpan
through_of west east = Through (col_of west) (col_of east)
