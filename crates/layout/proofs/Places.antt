-- Where a table's cells stand. Only here are the place of a cell, the payload length and a place's row and column opened. Assumes nothing.
use mathlib.Core.Path.{◌≡◌, refl, sym, ap, ◌∙◌}
use mathlib.Core.Logic.{⊎_elim}
use mathlib.Core.Bool.{Bool, true, false}
use mathlib.Core.List.{List}
use Prim.Native.Nat.{ℕ, suc, ◌+◌, ◌-◌, ◌*◌, ◌/◌, ◌%◌, ◌≤◌, ◌<◌, min}
use native.Mathlib.Nat.{eq-or-lt_of_le, zero-mul, suc-mul, mul_comm, mul_assoc, mul_left_comm, mul-le-mul, mul-le-mul_left, mul-le-mul_right}
use native.Mathlib.Nat.{div-add-mod', mod-lt, div-lt_iff_lt-mul}
use native.Mathlib.Omega.{arith}
use Rattle.std.specs.Int.{div_ceil}
use Rattle.std.proofs.lemmas.Grind.{div_ceil_times}
use native.Mathlib.Nat.{div-le_self, lt_of_mul-lt-mul_right}
use borrow.Author.Tests.{ltb-true, ltb-false, lt-ltb, le-ltb, eqb-true, eqb-false, eq-eqb, ne_eqb}
use lib.Arith.{digits_lt, digits_div, digits_mod}
use lib.Dec.{eqb, ltb}
use lib.ListN.{length}
use lib.Ieee.{Float}
use Rattle.grid.specs.declared.Grid.{Grid}
use Rattle.grid.specs.Grid.{limit}
use Rattle.layout.specs.Place.{blocks_over, cell_at, run_at, payload_length, right_table, row_of, column_of}

-- ---- the blocks in a line hold the line, and end less than a block past it

pub line_inside : (n i : ℕ) → i ≤ n → i < blocks_over n * 8
unfolding blocks_over
line_inside n i h = omega arith

pub some_block : (n : ℕ) → 0 < blocks_over n
unfolding blocks_over
some_block n = omega arith

-- ---- a place by its block and by where it is in the block

block_of : (b i j : ℕ) → i < 8 → j < 8 → (b * 64 + i * 8 + j) / 64 ≡ b
block_of b i j h k = omega arith

line_of : (b i j : ℕ) → i < 8 → j < 8 → (b * 64 + i * 8 + j) % 64 / 8 ≡ i
line_of b i j h k = omega arith

last_of : (b i j : ℕ) → i < 8 → j < 8 → (b * 64 + i * 8 + j) % 8 ≡ j
last_of b i j h k = omega arith

-- ---- a cell's place is that cell's alone

module _ (w r c : ℕ) (inside : c < blocks_over w * 8) where
  across : c / 8 < blocks_over w
  across = omega arith

  pub row_of_cell : row_of w (cell_at w r c) ≡ r
  unfolding cell_at row_of
  row_of_cell =
      let b = r / 8 * blocks_over w + c / 8 in
      rw (block_of b (r % 8) (c % 8) (omega arith) (omega arith), line_of b (r % 8) (c % 8) (omega arith) (omega arith), digits_div (r / 8) across)
      (omega arith)

  pub column_of_cell : column_of w (cell_at w r c) ≡ c
  unfolding cell_at column_of
  column_of_cell =
      let b = r / 8 * blocks_over w + c / 8 in
      rw (block_of b (r % 8) (c % 8) (omega arith) (omega arith), last_of b (r % 8) (c % 8) (omega arith) (omega arith), digits_mod (r / 8) across)
      (omega arith)

pub cells_apart : (w r c s d : ℕ) → c < blocks_over w * 8 → d < blocks_over w * 8 → cell_at w r c ≡ cell_at w s d → (r ≡ s) × (c ≡ d)
cells_apart w r c s d k l e = (
  sym (row_of_cell w r c k) ∙ ap (row_of w) e ∙ row_of_cell w s d l,
  sym (column_of_cell w r c k) ∙ ap (column_of w) e ∙ column_of_cell w s d l,
)

-- ---- every place is that of its row and column

split : (q b r s p : ℕ) → q / b * b + q % b ≡ q → r ≡ q / b → s ≡ q % b → q ≡ p / 64 → (r * b + s) * 64 + p % 64 / 8 * 8 + p % 8 ≡ p
split q b r s p d er es eq = rw (er, es, d, eq) (omega arith)

pub cell_of_place : (w p : ℕ) → cell_at w (row_of w p) (column_of w p) ≡ p
unfolding cell_at row_of column_of
cell_of_place w p =
    let q = p / 64 / blocks_over w in
    let s = p / 64 % blocks_over w in
    let a : (q * 8 + p % 64 / 8) / 8 ≡ q = omega arith in
    let b : (q * 8 + p % 64 / 8) % 8 ≡ p % 64 / 8 = omega arith in
    let d : (s * 8 + p % 8) / 8 ≡ s = omega arith in
    let e : (s * 8 + p % 8) % 8 ≡ p % 8 = omega arith in
    rw (a, b, d, e) (split (p / 64) (blocks_over w) q s p (div-add-mod' (p / 64) (blocks_over w)) refl refl refl)

pub column_inside : (w p : ℕ) → column_of w p < blocks_over w * 8
unfolding column_of
column_inside w p = omega (arith, mod-lt (p / 64) (some_block w))

-- ---- in range

module _ (w h : ℕ) where
  pub place_inside : (r c : ℕ) → r < blocks_over h * 8 → c < blocks_over w * 8 → cell_at w r c < payload_length w h
  unfolding cell_at payload_length
  place_inside r c k l =
      let x : r / 8 < blocks_over h = omega arith in
      let y : c / 8 < blocks_over w = omega arith in
      omega (arith, digits_lt x y, mul_comm (blocks_over w) (blocks_over h))

  pub cell_inside : (r c : ℕ) → r ≤ h → c ≤ w → cell_at w r c < payload_length w h
  cell_inside r c k l = place_inside r c (line_inside h r k) (line_inside w c l)

  pub row_inside : (p : ℕ) → p < payload_length w h → row_of w p < blocks_over h * 8
  unfolding payload_length row_of
  row_inside p l =
      let b : p / 64 < blocks_over h * blocks_over w = omega (arith, mul_comm (blocks_over w) (blocks_over h)) in
      omega (arith, (div-lt_iff_lt-mul (some_block w)).1 b)

  -- and a cell of a place in range is in a row of the blocks
  pub place_row : (r c : ℕ) → c < blocks_over w * 8 → cell_at w r c < payload_length w h → r < blocks_over h * 8
  place_row r c k l = rw (row_of_cell w r c k) at (row_inside (cell_at w r c) l)

-- ---- a table row stands in runs of 8 cells, 64 places apart

pub cell_in_row : (w r c : ℕ) → cell_at w r c ≡ cell_at w r 0 + run_at c
unfolding cell_at run_at
cell_in_row w r c = omega arith

pub runs_in_order : (c d : ℕ) → c ≤ d → run_at c ≤ run_at d
unfolding run_at
runs_in_order c d h = omega arith

-- as the code has it: the row's first cell, and the column's run
module _ (w r c start run : ℕ) (es : start ≡ cell_at w r 0) (er : run ≡ run_at c) where
  pub place_by_row : start + run ≡ cell_at w r c
  place_by_row = rw (es, er) (sym (cell_in_row w r c))

-- ---- north and west of a cell stand earlier cells

pub cells_in_order : (w r s c d : ℕ) → r ≤ s → c ≤ d → cell_at w r c ≤ cell_at w s d
unfolding cell_at
cells_in_order w r s c d l k = ⊎_elim same north (eq-or-lt_of_le {n = r / 8} {m = s / 8} (omega arith))
  where
    -- in one row of blocks, and in an earlier one
    same : r / 8 ≡ s / 8 → cell_at w r c ≤ cell_at w s d
    same e = rw e (omega arith)

    north : r / 8 < s / 8 → cell_at w r c ≤ cell_at w s d
    north e = omega (arith, mul-le-mul_right (blocks_over w) e, suc-mul (r / 8) (blocks_over w), some_block w)

-- ---- so many rows of blocks hold so many places, of which the last may lack some

module _ (w t n b : ℕ) (eb : b ≡ blocks_over w) (e : n ≡ div_ceil t (b * 64)) where
  hold : (t ≤ n * (blocks_over w * 64)) × (n * (blocks_over w * 64) < t + blocks_over w * 64)
  hold = let some = some_block w in rw (e, eb) (div_ceil_times t (blocks_over w * 64) (omega arith))

  pub few_held : n ≤ t + 1
  few_held = omega (arith, e, div-le_self t (b * 64))

  pub row_near : (r : ℕ) → r < n * 8 → cell_at w r 0 < t + 64
  unfolding cell_at
  row_near r l =
      let q : suc (r / 8) ≤ n = omega arith in
      omega (arith, mul-le-mul_right (blocks_over w * 64) q, suc-mul (r / 8) (blocks_over w * 64), mul_assoc (r / 8) (blocks_over w) 64, hold)

  pub row_reached : (r c : ℕ) → cell_at w r c < t → r < n * 8
  unfolding cell_at
  row_reached r c l =
      let q : r / 8 < n = lt_of_mul-lt-mul_right (blocks_over w * 64) (omega (arith, l, mul_assoc (r / 8) (blocks_over w) 64, hold)) in
      omega arith

-- ---- as many places as a table has

module _ (g : Grid) (cells : List Float) where
  pub right_table_lem : length cells ≡ payload_length g.width g.height → right_table g cells ≡ true
  unfolding right_table
  right_table_lem l = eq-eqb (length cells) (payload_length g.width g.height) l

  pub right_length : right_table g cells ≡ true → length cells ≡ payload_length g.width g.height
  unfolding right_table
  right_length e = eqb-true (length cells) (payload_length g.width g.height) e

-- ---- how large a table is

pub smaller_table : (a b w h : ℕ) → a ≤ w → b ≤ h → payload_length a b ≤ payload_length w h
unfolding payload_length blocks_over
smaller_table a b w h l m =
    let x : (suc a + 7) / 8 ≤ (suc w + 7) / 8 = omega arith in
    let y : (suc b + 7) / 8 ≤ (suc h + 7) / 8 = omega arith in
    omega (arith, mul-le-mul x y)

-- at most 8,192 places: at most 1,023 columns, and rows
pub few_columns : (w h : ℕ) → payload_length w h ≤ 8192 → w < 1024
unfolding payload_length blocks_over
few_columns w h e = let some : 1 ≤ (suc h + 7) / 8 = omega arith in omega (arith, mul-le-mul_left ((suc w + 7) / 8) some)

pub few_lines : (w h : ℕ) → payload_length w h ≤ 8192 → h < 1024
unfolding payload_length blocks_over
few_lines w h e = let some : 1 ≤ (suc w + 7) / 8 = omega arith in omega (arith, mul-le-mul_right ((suc h + 7) / 8) some)

-- a grid has fewer cells than its table places
pub fewer_cells : (w h : ℕ) → h * w ≤ payload_length w h
unfolding payload_length
fewer_cells w h =
    let x : h ≤ blocks_over h * 8 = omega (arith, line_inside h h (omega arith)) in
    let y : w ≤ blocks_over w * 8 = omega (arith, line_inside w w (omega arith)) in
    omega (arith, mul-le-mul x y, square (blocks_over h) (blocks_over w), mul_comm (blocks_over w) (blocks_over h))
  where
    square : (a b : ℕ) → a * 8 * (b * 8) ≡ 64 * (a * b)
    square a b = simp (mul_assoc, mul_comm, mul_left_comm) (omega arith)

-- ---- as the code works a place out

-- the largest usize
abbrev pub most : ℕ
most = 0xffff_ffff_ffff_ffff

module _ (w r c b : ℕ) (e : b ≡ blocks_over w) where
  pub place_is : (r / 8 * b + c / 8) * 64 + r % 8 * 8 + c % 8 ≡ cell_at w r c
  unfolding cell_at
  place_is = rw e

pub few_blocks : (n : ℕ) → n ≤ 0xffff_ffff → blocks_over n ≤ 0x2000_0000
unfolding blocks_over
few_blocks n h = omega arith

-- below 2^32 rows and columns, the place is below 2^64
pub place_fits : (w r c : ℕ) → w ≤ 0xffff_ffff → r ≤ 0xffff_ffff → c ≤ 0xffff_ffff → cell_at w r c ≤ most
unfolding cell_at
place_fits w r c h k l =
    let x : r / 8 ≤ 0x1fff_ffff = omega arith in
    omega (arith, mul-le-mul x (few_blocks w h))

-- the payload length, by the number of blocks
module _ (w h a b : ℕ) (ea : a ≡ blocks_over w) (eb : b ≡ blocks_over h) where
  pub blocks_fit : w ≤ 0xffff_ffff → h ≤ 0xffff_ffff → a * b ≤ 0x400_0000_0000_0000
  blocks_fit k l = rw (ea, eb) (omega (arith, mul-le-mul (few_blocks w k) (few_blocks h l)))

  pub length_most : min (a * b * 64) most ≡ min (payload_length w h) most
  unfolding payload_length
  length_most = rw (← ea, ← eb) (omega arith)

-- the payload length over a grid fits
pub length_held : (w h : ℕ) → w ≤ limit → h ≤ limit → min (payload_length w h) most ≡ payload_length w h
unfolding payload_length blocks_over
length_held w h l m =
    let x : (suc w + 7) / 8 ≤ 131073 = omega arith in
    let y : (suc h + 7) / 8 ≤ 131073 = omega arith in
    omega (arith, mul-le-mul x y)

-- whether a length is that, or over some number, as the code works it out
same_test : (n m t : ℕ) → n < most → m ≡ min t most → eqb n m ≡ eqb n t
same_test n m t l e = go (eqb n t) refl
  where
    go : (b : Bool) → eqb n t ≡ b → eqb n m ≡ b
    go true q = eq-eqb n m (omega (arith, eqb-true n t q))
    go false q = ne_eqb n m (λ z. eqb-false n t q (omega arith))

pub is_right : (g : Grid) (cells : List Float) (n : ℕ) → length cells < most → n ≡ min (payload_length g.width g.height) most
    → eqb (length cells) n ≡ right_table g cells
unfolding right_table
is_right g cells n l e = same_test (length cells) n (payload_length g.width g.height) l e

pub over_held : (n t : ℕ) → n < most → ltb n (min t most) ≡ ltb n t
over_held n t l = go (ltb n t) refl
  where
    go : (b : Bool) → ltb n t ≡ b → ltb n (min t most) ≡ b
    go true q = lt-ltb n (min t most) (omega (arith, ltb-true n t q))
    go false q = le-ltb n (min t most) (omega (arith, ltb-false n t q))

-- a table row spans its row of blocks
pub row_spans : (w r c : ℕ) → c < blocks_over w * 8 → cell_at w r c < cell_at w r 0 + 64 * blocks_over w
unfolding cell_at
row_spans w r c k = omega arith

-- a cell is at least as far as its row
pub row_before : (w r c : ℕ) → r ≤ cell_at w r c
unfolding cell_at
row_before w r c = omega (arith, mul-le-mul_left (r / 8) (some_block w))

-- ---- the first cell, and the cell behind a cell

pub first_place : (w : ℕ) → cell_at w 0 0 ≡ 0
unfolding cell_at
first_place w = omega (arith, zero-mul (blocks_over w))

pub first_inside : (w : ℕ) → 0 < blocks_over w * 8
first_inside w = omega (arith, some_block w)

last_block : (w c : ℕ) → w / 8 ≤ c / 8 → c < blocks_over w * 8 → suc (c / 8) ≡ blocks_over w
unfolding blocks_over
last_block w c l m = omega arith

module _ (w r c : ℕ) where
  -- in its run of 8
  pub behind_in_run : c % 8 < 7 → c < blocks_over w * 8 → (cell_at w r (c + 1) ≡ suc (cell_at w r c)) × (c + 1 < blocks_over w * 8)
  unfolding cell_at
  behind_in_run h k = (omega arith, omega arith)

  -- behind its run, the run below it
  pub behind_run : 7 ≤ c % 8 → r % 8 < 7 → c < blocks_over w * 8 → (cell_at w (r + 1) (c - 7) ≡ suc (cell_at w r c)) × (c - 7 < blocks_over w * 8)
  unfolding cell_at
  behind_run h k l =
      let e : (r + 1) / 8 ≡ r / 8 = omega arith in
      (rw e (omega arith), omega arith)

  -- behind its block, the next one
  pub behind_block : 7 ≤ c % 8 → 7 ≤ r % 8 → c / 8 < w / 8 → (cell_at w (r - 7) (c + 1) ≡ suc (cell_at w r c)) × (c + 1 < blocks_over w * 8)
  unfolding cell_at blocks_over
  behind_block h k l =
      let e : (r - 7) / 8 ≡ r / 8 = omega arith in
      (rw e (omega arith), omega arith)

  -- behind the last block of its row of blocks, the next row of blocks
  pub behind_line : 7 ≤ c % 8 → 7 ≤ r % 8 → w / 8 ≤ c / 8 → c < blocks_over w * 8 → (cell_at w (r + 1) 0 ≡ suc (cell_at w r c)) × (0 < blocks_over w * 8)
  unfolding cell_at
  behind_line h k l m =
      let e : (r + 1) / 8 ≡ suc (r / 8) = omega arith in
      (rw (e, suc-mul (r / 8) (blocks_over w)) (omega (arith, last_block w c l m)), first_inside w)
