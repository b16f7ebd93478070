-- Document 02, C-12, worked: what the cells that are no plain count are under four marks, and the tallies of a row of them. Assumes nothing.
use mathlib.Core.Path.{◌≡◌, refl}
use mathlib.Core.List.{List, [], ◌∷◌, map}
use Prim.Native.Nat.{ℕ}
use lib.Ieee.{lt, eq, of_bits}
use Rattle.raster.specs.Raster.{kind_of, sanitised_row, row_tallies}
use Rattle.raster.specs.Example.{example_mark, odd_row, kind_number}

abbrev kinds_under : ℕ → List ℕ
kinds_under nodata = map (λ bits. kind_number (kind_of nodata bits)) odd_row

-- −9999: unbounded, negative, zero three times, populated twice
usual_mark : kinds_under example_mark ≡ 4 ∷ 1 ∷ 2 ∷ 2 ∷ 2 ∷ 3 ∷ 3 ∷ []
unfolding kind_of lt eq of_bits
usual_mark = refl

-- a mark of +infinity, of −infinity, of the first NaN: that cell is nodata, and the others are what they were
mark_infinity : kinds_under 0x7f80_0000 ≡ 0 ∷ 1 ∷ 2 ∷ 2 ∷ 2 ∷ 3 ∷ 3 ∷ []
unfolding kind_of lt eq of_bits
mark_infinity = refl

mark_minus_infinity : kinds_under 0xff80_0000 ≡ 4 ∷ 0 ∷ 2 ∷ 2 ∷ 2 ∷ 3 ∷ 3 ∷ []
unfolding kind_of lt eq of_bits
mark_minus_infinity = refl

mark_nan : kinds_under 0x7f80_0001 ≡ 4 ∷ 1 ∷ 0 ∷ 2 ∷ 2 ∷ 3 ∷ 3 ∷ []
unfolding kind_of lt eq of_bits
mark_nan = refl

odd_tallies : row_tallies example_mark odd_row ≡ record { nodata = 0; negative = 1; zero = 3; populated = 2; unbounded = 1 }
unfolding kind_of lt eq of_bits
odd_tallies = refl

-- the two populated cells stay, and all others are +0.0
odd_row_lem : sanitised_row example_mark odd_row ≡ 0 ∷ 0 ∷ 0 ∷ 0 ∷ 0 ∷ 0x7f7f_ffff ∷ 0x3f80_0000 ∷ []
unfolding kind_of lt eq of_bits
odd_row_lem = refl
