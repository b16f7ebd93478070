-- Values of binary64 that definitions name, by their bits.
use Rattle.std.specs.Prelude.{from_bits, Float}
use Rattle.std.specs.Float.{binary64}

-- 0.0
abbrev pub f64zero : Float
f64zero = from_bits binary64 0

-- 0.5
abbrev pub f64half : Float
f64half = from_bits binary64 0x3fe0_0000_0000_0000

-- 1.0
abbrev pub f64one : Float
f64one = from_bits binary64 0x3ff0_0000_0000_0000

-- 2.0
abbrev pub f64two : Float
f64two = from_bits binary64 0x4000_0000_0000_0000

-- 4.0
abbrev pub f64four : Float
f64four = from_bits binary64 0x4010_0000_0000_0000

-- 21.0
abbrev pub f64p21 : Float
f64p21 = from_bits binary64 0x4035_0000_0000_0000

-- 90.0
abbrev pub f64p90 : Float
f64p90 = from_bits binary64 0x4056_8000_0000_0000

-- 91.0
abbrev pub f64p91 : Float
f64p91 = from_bits binary64 0x4056_c000_0000_0000

-- 180.0
abbrev pub f64p180 : Float
f64p180 = from_bits binary64 0x4066_8000_0000_0000

-- 181.0
abbrev pub f64p181 : Float
f64p181 = from_bits binary64 0x4066_a000_0000_0000

-- 360.0
abbrev pub f64p360 : Float
f64p360 = from_bits binary64 0x4076_8000_0000_0000

-- the largest finite value, f64::MAX
abbrev pub f64max : Float
f64max = from_bits binary64 0x7fef_ffff_ffff_ffff
