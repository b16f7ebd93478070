-- Document 02, C-13: a wrong length of each lent buffer, alone and beside others, and the numbers that it comes before.
use Rattle.std.specs.Prelude.{ℕ, List, [], ◌∷◌, replicate}
use Rattle.float.specs.Float.{f64one}
use Rattle.raster.specs.Example.{example_mark, first_row, second_row}
use Rattle.grid.specs.Example.{example_grid}
use Rattle.builder.specs.declared.Builder.{Builder}
use Rattle.builder.specs.Build.{Buffers, buffers, first_builder, start_call, builder_after, row_call, finish_call}
use Rattle.cases.specs.Cases.{Case, number_of}

-- what is lent, by its lengths. The example is 4 by 2: at factor 2 they are 5, 5, 3 and 64, at factor 1 they are 5, 5, 5 and 64
abbrev lent : ℕ → ℕ → ℕ → ℕ → Buffers
lent acc corr coarse table = buffers (replicate acc f64one) (replicate corr f64one) (replicate coarse f64one) (replicate table f64one)

-- the number of a start at a factor
abbrev start : ℕ → Buffers → ℕ
start factor m = number_of (start_call example_grid factor example_mark m).answer

-- the example's builders at factor 2, with no row in, one, and both; the number of a row call and of a finish
abbrev started : Builder
started = first_builder example_grid 2 example_mark

abbrev halfway : Builder
halfway = builder_after started first_row

abbrev complete : Builder
complete = builder_after halfway second_row

abbrev row : Builder → List ℕ → Buffers → ℕ
row b cells m = number_of (row_call b cells m).answer

abbrev finish : Builder → Buffers → ℕ
finish b m = number_of (finish_call b m)

abbrev pub lengths : List Case
lengths =
    -- right ones, at factors 2 and 1
    record { gives = start 2 (lent 5 5 3 64) ∷ start 1 (lent 5 5 5 64) ∷ []; says = 0 ∷ 0 ∷ [] }
    -- 11: a table that is one longer, one shorter, empty, as long as in row layout, or a block longer
    ∷ record {
      gives = start 2 (lent 5 5 3 65) ∷ start 2 (lent 5 5 3 63) ∷ start 2 (lent 5 5 3 0) ∷ start 2 (lent 5 5 3 6) ∷ start 2 (lent 5 5 3 128) ∷ [];
      says = 11 ∷ 11 ∷ 11 ∷ 11 ∷ 11 ∷ [];
    }
    -- 29: an accumulator, then a correction row, that is one longer, one shorter, empty, or of the coarse width
    ∷ record {
      gives = start 2 (lent 6 5 3 64) ∷ start 2 (lent 4 5 3 64) ∷ start 2 (lent 0 5 3 64) ∷ start 2 (lent 3 5 3 64) ∷ [];
      says = 29 ∷ 29 ∷ 29 ∷ 29 ∷ [];
    }
    ∷ record {
      gives = start 2 (lent 5 6 3 64) ∷ start 2 (lent 5 4 3 64) ∷ start 2 (lent 5 0 3 64) ∷ start 2 (lent 5 3 3 64) ∷ [];
      says = 29 ∷ 29 ∷ 29 ∷ 29 ∷ [];
    }
    -- 30: a coarse row that is one longer, one shorter, empty, or of the source's width; and at factor 1, where no call writes it
    ∷ record {
      gives = start 2 (lent 5 5 4 64) ∷ start 2 (lent 5 5 2 64) ∷ start 2 (lent 5 5 0 64) ∷ start 2 (lent 5 5 5 64) ∷ [];
      says = 30 ∷ 30 ∷ 30 ∷ 30 ∷ [];
    }
    ∷ record { gives = start 1 (lent 5 5 6 64) ∷ start 1 (lent 5 5 4 64) ∷ start 1 (lent 5 5 0 64) ∷ []; says = 30 ∷ 30 ∷ 30 ∷ [] }
    -- two at once: the table with each of the others, then the others with each other
    ∷ record {
      gives = start 2 (lent 4 5 3 63) ∷ start 2 (lent 5 4 3 63) ∷ start 2 (lent 5 5 2 63) ∷ start 2 (lent 4 4 3 64) ∷ start 2 (lent 4 5 2 64)
          ∷ start 2 (lent 5 4 2 64) ∷ [];
      says = 11 ∷ 11 ∷ 11 ∷ 29 ∷ 29 ∷ 29 ∷ [];
    }
    -- three and four at once
    ∷ record {
      gives = start 2 (lent 4 4 2 64) ∷ start 2 (lent 4 4 3 63) ∷ start 2 (lent 4 5 2 63) ∷ start 2 (lent 5 4 2 63) ∷ start 2 (lent 4 4 2 63) ∷ [];
      says = 29 ∷ 11 ∷ 11 ∷ 11 ∷ 11 ∷ [];
    }
    -- a start: 10 comes first
    ∷ record { gives = start 3 (lent 4 4 2 63) ∷ start 0 (lent 0 0 0 0) ∷ []; says = 10 ∷ 10 ∷ [] }
    -- a row: they come ahead of a row after the last, 13, and of one that is too short, 12
    ∷ record {
      gives = row complete [] (lent 5 5 3 63) ∷ row complete [] (lent 4 5 3 64) ∷ row complete [] (lent 5 4 3 64) ∷ row complete [] (lent 5 5 2 64)
          ∷ row complete [] (lent 5 5 3 64) ∷ [];
      says = 11 ∷ 29 ∷ 29 ∷ 30 ∷ 13 ∷ [];
    }
    ∷ record {
      gives = row started [] (lent 5 5 3 63) ∷ row started [] (lent 4 5 3 64) ∷ row started [] (lent 5 4 3 64) ∷ row started [] (lent 5 5 2 64)
          ∷ row started [] (lent 5 5 3 64) ∷ row started first_row (lent 5 5 3 64) ∷ [];
      says = 11 ∷ 29 ∷ 29 ∷ 30 ∷ 12 ∷ 0 ∷ [];
    }
    -- a finish: they come ahead of a finish before the last row, 14
    ∷ record {
      gives = finish halfway (lent 5 5 3 63) ∷ finish halfway (lent 4 5 3 64) ∷ finish halfway (lent 5 4 3 64) ∷ finish halfway (lent 5 5 2 64)
          ∷ finish halfway (lent 5 5 3 64) ∷ finish complete (lent 5 5 3 64) ∷ [];
      says = 11 ∷ 29 ∷ 29 ∷ 30 ∷ 14 ∷ 0 ∷ [];
    }
    ∷ []
