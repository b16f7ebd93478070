-- Document 01, 'The card': the lines that `count` prints, as lists of ASCII bytes. Each line ends with one LF.
use Rattle.std.specs.Prelude.{List, [], ◌∷◌, ◌++◌, ℕ, Float}
use Rattle.raster.specs.declared.CellTallies.{CellTallies}
use Rattle.digits.specs.Digits.{decimal, space, newline, shown}

-- ---- words

-- `rows `
abbrev pub rows_word : List ℕ
rows_word = 114 ∷ 111 ∷ 119 ∷ 115 ∷ 32 ∷ []

-- `cells `
abbrev pub cells_word : List ℕ
cells_word = 99 ∷ 101 ∷ 108 ∷ 108 ∷ 115 ∷ 32 ∷ []

-- `total `
abbrev pub total_word : List ℕ
total_word = 116 ∷ 111 ∷ 116 ∷ 97 ∷ 108 ∷ 32 ∷ []

-- `circle `
abbrev pub circle_word : List ℕ
circle_word = 99 ∷ 105 ∷ 114 ∷ 99 ∷ 108 ∷ 101 ∷ 32 ∷ []

-- `refused `
abbrev pub refused_word : List ℕ
refused_word = 114 ∷ 101 ∷ 102 ∷ 117 ∷ 115 ∷ 101 ∷ 100 ∷ 32 ∷ []

-- ---- lines

-- `refused n`
unfoldable pub refused_line : ℕ → List ℕ
refused_line n = refused_word ++ decimal n ++ newline

-- `rows` and the source height
unfoldable pub rows_line : ℕ → List ℕ
rows_line height = rows_word ++ decimal height ++ newline

-- `cells` and the tallies in record order, the unbounded last (document 02, C-12)
unfoldable pub cells_line : CellTallies → List ℕ
cells_line t =
    cells_word ++ decimal t.nodata ++ space ++ decimal t.negative ++ space ++ decimal t.zero ++ space ++ decimal t.populated ++ space
    ++ decimal t.unbounded ++ newline

-- `total` and the total
unfoldable pub total_line : Float → List ℕ
total_line total = total_word ++ shown total ++ newline

-- `circle`, its index, and the people or `refused n`
unfoldable pub circle_line : ℕ → Float → List ℕ
circle_line i people = circle_word ++ decimal i ++ space ++ shown people ++ newline

unfoldable pub circle_refused_line : ℕ → ℕ → List ℕ
circle_refused_line i n = circle_word ++ decimal i ++ space ++ refused_line n
