-- A band of any two rows: the smaller first. Assumes nothing.
use Prim.Native.Nat.{ℕ, ◌<◌, ◌≤◌}
use native.Mathlib.Omega.{arith}
use Rattle.table.specs.Rectangle.{row_band}

-- north is at most south, and south below what both rows are below
module _ (a b : ℕ) where
  pub band_ordered : (row_band a b).north.0 ≤ (row_band a b).south.0
  band_ordered = omega arith

  pub band_below : (n : ℕ) → a < n → b < n → (row_band a b).south.0 < n
  band_below n l m = omega arith
