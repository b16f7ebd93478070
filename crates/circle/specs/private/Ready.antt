-- What the sum of a circle's rows goes by: the checks are passed.
use Rattle.std.specs.Prelude.{◌≡◌, List, ℕ, ◌+◌, ◌≤◌, ◌<◌, length, get_or}
use Rattle.grid.specs.declared.Grid.{Grid}
use Rattle.grid.specs.Grid.{limit}
use Rattle.layout.specs.Place.{payload_length}
use Rattle.cap.specs.Cap.{closing}
use Rattle.kernel.specs.declared.Kernel.{Kernel}

-- a row of half-width h around a column
pub record RowReady (g : Grid) (cells : ℕ) (closes centre row h : ℕ) : Type 0 where
  pub right : cells ≡ payload_length g.width g.height
  pub once : closes ≡ closing g.width
  pub on : centre < g.width
  pub line : row < g.height
  pub within : h ≤ closing g.width

-- every row of the kernel
pub record CircleReady (g : Grid) (cells : ℕ) (k : Kernel) (widths : List ℕ) (centre : ℕ) : Type 0 where
  pub right : cells ≡ payload_length g.width g.height
  pub on : centre < g.width
  pub lines : g.height ≤ limit
  pub rows : k.north.0 + k.count ≤ g.height
  pub slice : k.count ≤ length widths
  pub closed : (i : ℕ) → i < k.count → get_or widths i 0 ≤ closing g.width
