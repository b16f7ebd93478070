-- Document 01, 'Building' (`build` of table.rs): a row goes into the column sums by `two_sum` steps, carrying prefix and column corrections.
use Rattle.std.specs.Prelude.{List, [], ◌∷◌, ◌++◌, ℕ, take, drop, Float}
use Rattle.std.specs.Float.{binary64}
use Rattle.std.specs.Float.Ieee.{add}
use Rattle.float.specs.Float.{f64zero}
use Rattle.float.specs.TwoSum.{two_sum}
use Rattle.float.specs.declared.TwoSum.{TwoSum}
use Rattle.raster.specs.Raster.{cell_value}

-- a sum with its correction takes in x: two_sum(sum, x), then two_sum of that sum and the correction plus what was dropped
unfoldable pub taken_in : Float → Float → Float → TwoSum
taken_in sum corr x =
    let t = two_sum sum x in
    two_sum t.sum (add binary64 corr t.dropped)

-- the column sums after the cells of a row: the row's prefix with its correction takes in each cell, then the column's sum takes in the prefix
abbrev pub swept_acc : Float → Float → List ℕ → List Float → List Float → List Float
swept_acc prefix rest [] acc corr = acc
swept_acc prefix rest (x ∷ xs) [] corr = []
swept_acc prefix rest (x ∷ xs) (a ∷ acc) [] = a ∷ acc
swept_acc prefix rest (x ∷ xs) (a ∷ acc) (c ∷ corr) =
    let p = taken_in prefix rest (cell_value x) in
    (taken_in a c p.sum).sum ∷ swept_acc p.sum p.dropped xs acc corr

-- the column corrections after them
abbrev pub swept_corr : Float → Float → List ℕ → List Float → List Float → List Float
swept_corr prefix rest [] acc corr = corr
swept_corr prefix rest (x ∷ xs) [] corr = corr
swept_corr prefix rest (x ∷ xs) (a ∷ acc) [] = []
swept_corr prefix rest (x ∷ xs) (a ∷ acc) (c ∷ corr) =
    let p = taken_in prefix rest (cell_value x) in
    (taken_in a c p.sum).dropped ∷ swept_corr p.sum p.dropped xs acc corr

-- accumulator and corrections after a row: their first cell belongs to no column, and the prefix is +0.0 at the west end
unfoldable pub acc_after : List ℕ → List Float → List Float → List Float
acc_after row acc corr = take 1 acc ++ swept_acc f64zero f64zero row (drop 1 acc) (drop 1 corr)

unfoldable pub corr_after : List ℕ → List Float → List Float → List Float
corr_after row acc corr = take 1 corr ++ swept_corr f64zero f64zero row (drop 1 acc) (drop 1 corr)
