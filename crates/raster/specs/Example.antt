-- Document 01, 'Bench cases': the cells of its own example, as f32 bits, and kinds as numbers, for laws that compute them.
use Rattle.std.specs.Prelude.{List, [], ◌∷◌, ℕ}
use Rattle.raster.specs.declared.CellKind.{CellKind}
use Rattle.raster.specs.declared.CellKind.TheVariants.{Nodata, Negative, Zero, Populated, Unbounded}

-- nodata is −9999
abbrev pub example_mark : ℕ
example_mark = 0xc61c_3c00

-- 1 2 3 4
abbrev pub first_row : List ℕ
first_row = 0x3f80_0000 ∷ 0x4000_0000 ∷ 0x4040_0000 ∷ 0x4080_0000 ∷ []

-- 5 −9999 −1 0
abbrev pub second_row : List ℕ
second_row = 0x40a0_0000 ∷ example_mark ∷ 0xbf80_0000 ∷ 0 ∷ []

-- document 02, C-12: +infinity, −infinity, a NaN with payload 1, one with a minus sign, −0.0, the largest number, 1
abbrev pub odd_row : List ℕ
odd_row = 0x7f80_0000 ∷ 0xff80_0000 ∷ 0x7f80_0001 ∷ 0xffc0_0000 ∷ 0x8000_0000 ∷ 0x7f7f_ffff ∷ 0x3f80_0000 ∷ []

-- a kind as its place in the record of tallies
abbrev pub kind_number : CellKind → ℕ
kind_number Nodata = 0
kind_number Negative = 1
kind_number Zero = 2
kind_number Populated = 3
kind_number Unbounded = 4
