-- The row handed on, and its cells. Assumes nothing.
use mathlib.Core.Path.{◌≡◌, refl, ◌∙◌}
use mathlib.Core.Bool.{Bool, true, false, cond}
use mathlib.Core.List.{List}
use Prim.Native.Nat.{ℕ, ◌+◌, ◌*◌, ◌<◌, ◌≤◌}
use native.Mathlib.Nat.{mul-one, mul-le-mul_right, suc-mul}
use native.Mathlib.Omega.{arith}
use borrow.Author.Tests.{eqb-true}
use lib.Dec.{eqb}
use lib.ListN.{length, take, get_or}
use lib.Seq.{length-take-le, get_or-take}
use lib.Ieee.{Float, nan}
use Rattle.layout.proofs.Entries.{length_entries, get_or_entries}
use Rattle.builder.specs.Rows.{sampled, coarse_filled, handed_on}

-- the index of a sample is in range
pub sample_in : (j n factor len : ℕ) → j < n → n * factor < len + factor → j * factor < len
sample_in j n factor len h k = omega (arith, mul-le-mul_right factor h, suc-mul j factor)

-- ---- lengths and cells of the row handed on

pub length_coarse_filled : (acc coarse : List Float) (k : ℕ) → length (coarse_filled acc coarse k) ≡ length coarse
unfolding coarse_filled
length_coarse_filled acc coarse k = go (eqb k 1)
  where
    go : (t : Bool) → length (cond t coarse (sampled acc k coarse)) ≡ length coarse
    go true = refl
    go false = length_entries _ (length coarse)

pub length_handed_on : (acc coarse : List Float) (k n : ℕ) → n ≤ length acc → n ≤ length coarse → length (handed_on acc coarse k n) ≡ n
unfolding handed_on
length_handed_on acc coarse k n a c = go (eqb k 1)
  where
    go : (t : Bool) → length (take n (cond t acc coarse)) ≡ n
    go true = length-take-le n acc a
    go false = length-take-le n coarse c

-- the row handed on, with the coarse row just filled, is every factor-th cell of acc
pub get_or_handed_on : (acc coarse : List Float) (k n c : ℕ) → n ≤ length coarse → c < n
    → get_or (handed_on acc (coarse_filled acc coarse k) k n) c nan ≡ get_or acc (c * k) nan
unfolding handed_on coarse_filled
get_or_handed_on acc coarse k n c l h =
    get_or-take n (cond (eqb k 1) acc (cond (eqb k 1) coarse (sampled acc k coarse))) c nan h ∙ go (eqb k 1) (eqb-true k 1)
  where
    go : (t : Bool) → (t ≡ true → k ≡ 1) → get_or (cond t acc (cond t coarse (sampled acc k coarse))) c nan ≡ get_or acc (c * k) nan
    go true e = rw (e refl, mul-one c)
    go false e = get_or_entries _ (length coarse) c (omega arith)
