-- What the map's checks leave known: a grid within its limits, and both lengths.
use Rattle.std.specs.Prelude.{◌≡◌, ℕ, ◌≤◌}
use Rattle.grid.specs.declared.Grid.{Grid}
use Rattle.grid.specs.Grid.{limit}
use Rattle.layout.specs.Place.{payload_length}
use Rattle.layout.specs.Rows.{row_length}

pub record Sized (g : Grid) (r b : ℕ) : Type 0 where
  pub columns : g.width ≤ limit
  pub lines : g.height ≤ limit
  pub rows : r ≡ row_length g.width g.height
  pub blocks : b ≡ payload_length g.width g.height
