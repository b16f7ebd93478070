-- How long each line is at most. Assumes nothing.
use mathlib.Core.Bool.{Bool, true, false, cond}
use mathlib.Core.List.{◌++◌}
use Prim.Native.Nat.{ℕ, ◌^◌, ◌<◌, ◌≤◌}
use native.Mathlib.Omega.{arith}
use lib.ListN.{length, length-append}
use lib.Ieee.{Float, binary64, to_bits, to_unsigned}
use lib.Ieee.Casts.{to_unsigned-lt}
use Rattle.raster.specs.declared.CellTallies.{CellTallies}
use Rattle.raster.specs.Raster.{cells_of}
use Rattle.digits.specs.Digits.{decimal, hex_digits, bits_word, is_count, shown}
use Rattle.text.specs.Text.{refused_line, rows_line, cells_line, total_line, circle_line, circle_refused_line}
use Rattle.digits.proofs.Digits.{decimal_length, hex_length}

u32_length : (n : ℕ) → n < 2 ^ 32 → length (decimal n) ≤ 10
u32_length n h = decimal_length 9 n (omega arith)

u64_length : (n : ℕ) → n < 2 ^ 64 → length (decimal n) ≤ 20
u64_length n h = decimal_length 19 n (omega arith)

either_length : (b : Bool) (n m : ℕ) → n < 2 ^ 64 → length (cond b (decimal n) (bits_word ++ hex_digits 16 m)) ≤ 21
either_length true n m h = omega (arith, u64_length n h)
either_length false n m h = omega (arith, length-append bits_word (hex_digits 16 m), hex_length 16 m)

shown_length : (x : Float) → length (shown x) ≤ 21
unfolding shown
shown_length x = either_length (is_count x) (to_unsigned 64 x) (to_bits binary64 x) (to_unsigned-lt 64 x)

pub refused_length : (n : ℕ) → n < 2 ^ 32 → length (refused_line n) ≤ 19
unfolding refused_line
refused_length n h = simp length-append (omega (arith, u32_length n h))

-- numbers below 10,000
pub rows_length : (n : ℕ) → n < 10000 → length (rows_line n) ≤ 10
unfolding rows_line
rows_length n h = simp length-append (omega (arith, decimal_length 3 n (omega arith)))

pub cells_length : (t : CellTallies) → cells_of t < 10000 → length (cells_line t) ≤ 31
unfolding cells_line
cells_length t h =
    let four : (n : ℕ) → n ≤ cells_of t → length (decimal n) ≤ 4 = λ n k. decimal_length 3 n (omega arith) in
    simp length-append
    (omega (
      arith,
      four t.nodata (omega arith),
      four t.negative (omega arith),
      four t.zero (omega arith),
      four t.populated (omega arith),
      four t.unbounded (omega arith),
    ))

pub total_length : (x : Float) → length (total_line x) ≤ 28
unfolding total_line
total_length x = simp length-append (omega (arith, shown_length x))

pub circle_length : (i : ℕ) (x : Float) → i < 10000 → length (circle_line i x) ≤ 34
unfolding circle_line
circle_length i x h = simp length-append (omega (arith, decimal_length 3 i (omega arith), shown_length x))

pub circle_refused_length : (i n : ℕ) → i < 10000 → n < 2 ^ 32 → length (circle_refused_line i n) ≤ 34
unfolding circle_refused_line
circle_refused_length i n h k = simp length-append (omega (arith, decimal_length 3 i (omega arith), refused_length n k))
