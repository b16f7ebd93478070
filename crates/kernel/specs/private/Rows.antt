-- What the private functions of `kernel` go by.
use Rattle.std.specs.Prelude.{List, ◌++◌, Bool, ℕ, ◌<◌, ◌≤◌, drop}
use Rattle.grid.specs.Lookup.{lat_at}
use Rattle.grid.specs.Grid.{limit}
use Rattle.grid.specs.declared.Grid.{Grid}
use Rattle.grid.specs.declared.Row.{Row}
use Rattle.cap.specs.Terms.{reached_by, half_width_by}
use Rattle.cap.specs.declared.CapTerms.{CapTerms}
use Rattle.kernel.specs.Walks.{listed}

-- `row_reached` and `row_width` by what all rows share
unfoldable pub row_reached_by : Grid → CapTerms → ℕ → Bool
row_reached_by g cap row = reached_by cap (lat_at g row)

unfoldable pub row_width_by : Grid → CapTerms → ℕ → ℕ
row_width_by g cap row = half_width_by cap (lat_at g row)

-- f at the rows from north on, and the entries past the count as they were
unfoldable pub widths_after : (ℕ → ℕ) → ℕ → ℕ → List ℕ → List ℕ
widths_after f north count lent = listed f north count ++ drop count lent

-- what a kernel call that is not refused goes by
pub record KernelReady (g : Grid) (centre : Row) (lent : ℕ) : Type 0 where
  pub on : centre.0 < g.height
  pub lines : g.height ≤ limit
  pub room : g.height ≤ lent
