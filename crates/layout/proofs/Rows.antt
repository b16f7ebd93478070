-- Where a table's cells stand in row layout. Assumes nothing.
use mathlib.Core.Path.{◌≡◌}
use mathlib.Core.Bool.{true}
use mathlib.Core.List.{List}
use Prim.Native.Nat.{ℕ, suc, ◌+◌, ◌*◌, ◌/◌, ◌%◌, ◌≤◌, ◌<◌}
use native.Mathlib.Nat.{suc-mul, mul-le-mul, div-add-mod', mod-lt, div-lt_iff_lt-mul}
use native.Mathlib.Numerals.{add-one}
use native.Mathlib.Omega.{arith}
use borrow.Author.Tests.{eqb-true, eq-eqb}
use lib.Arith.{digits_lt, digits_div, digits_mod}
use lib.ListN.{length}
use lib.Ieee.{Float}
use Rattle.grid.specs.declared.Grid.{Grid}
use Rattle.grid.specs.Grid.{limit}
use Rattle.layout.specs.Rows.{row_cell_at, row_length, right_rows}

module _ (w r c : ℕ) (inside : c ≤ w) where
  pub row_of_row_cell : row_cell_at w r c / suc w ≡ r
  unfolding row_cell_at
  row_of_row_cell = digits_div r (omega arith)

  pub column_of_row_cell : row_cell_at w r c % suc w ≡ c
  unfolding row_cell_at
  column_of_row_cell = digits_mod r (omega arith)

pub row_cell_of_place : (w q : ℕ) → row_cell_at w (q / suc w) (q % suc w) ≡ q
unfolding row_cell_at
row_cell_of_place w q = div-add-mod' q (suc w)

pub row_cell_inside : (w h r c : ℕ) → r ≤ h → c ≤ w → row_cell_at w r c < row_length w h
unfolding row_cell_at row_length
row_cell_inside w h r c k l = digits_lt (omega arith) (omega arith)

pub row_column_inside : (w q : ℕ) → q % suc w ≤ w
row_column_inside w q = let p : 0 < suc w = omega arith in omega (arith, mod-lt q p)

pub row_row_inside : (w h q : ℕ) → q < row_length w h → q / suc w ≤ h
unfolding row_length
row_row_inside w h q l = let p : 0 < suc w = omega arith in omega (arith, (div-lt_iff_lt-mul p).1 l)

pub right_rows_lem : (g : Grid) (cells : List Float) → length cells ≡ row_length g.width g.height → right_rows g cells ≡ true
unfolding right_rows
right_rows_lem g cells l = eq-eqb (length cells) (row_length g.width g.height) l

pub right_row_length : (g : Grid) (cells : List Float) → right_rows g cells ≡ true → length cells ≡ row_length g.width g.height
unfolding right_rows
right_row_length g cells e = eqb-true (length cells) (row_length g.width g.height) e

-- ---- as the code works a place and the length out

pub row_place_is : (w r c : ℕ) → r * (w + 1) + c ≡ row_cell_at w r c
unfolding row_cell_at
row_place_is w r c = rw (add-one w)

pub row_length_is : (w h : ℕ) → (h + 1) * (w + 1) ≡ row_length w h
unfolding row_length
row_length_is w h = rw (add-one w, add-one h)

pub row_length_fits : (w h : ℕ) → w ≤ limit → h ≤ limit → (h + 1) * (w + 1) ≤ 0x100_0020_0001
row_length_fits w h k l =
    let rows : h + 1 ≤ 1048577 = omega arith in
    let columns : w + 1 ≤ 1048577 = omega arith in
    omega (arith, mul-le-mul rows columns)

-- ---- the first cell, and the cell behind a cell

pub first_row_place : (w : ℕ) → row_cell_at w 0 0 ≡ 0
unfolding row_cell_at
first_row_place w = omega arith

pub behind_in_row : (w r c : ℕ) → row_cell_at w r (c + 1) ≡ suc (row_cell_at w r c)
unfolding row_cell_at
behind_in_row w r c = omega arith

pub behind_row : (w r c : ℕ) → w ≤ c → c ≤ w → row_cell_at w (r + 1) 0 ≡ suc (row_cell_at w r c)
unfolding row_cell_at
behind_row w r c h k = rw (add-one r, suc-mul r (suc w)) (omega arith)
