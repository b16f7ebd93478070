-- Lengths that are right for a decimation, and the room of a row in a table.
use Rattle.std.specs.Prelude.{true, ◌≡◌, ℕ, suc, ◌≤◌}
use Rattle.grid.specs.declared.Grid.{Grid}
use Rattle.layout.specs.Place.{payload_length}
use Rattle.decimation.specs.declared.Decimation.{Decimation}
use Rattle.decimation.specs.Decimation.{valid_decimation}
use Rattle.builder.specs.Build.{Lengths}

-- the lengths that no check refuses
pub record Sized (d : Decimation) (lent : Lengths) : Type 0 where
  pub acc : lent.acc ≡ suc d.source.width
  pub corr : lent.corr ≡ suc d.source.width
  pub coarse : lent.coarse ≡ suc d.grid.width
  pub table : lent.table ≡ payload_length d.grid.width d.grid.height

-- what a row is handed on with: a decimation, and accumulator, coarse row and table of its lengths
pub record Room (d : Decimation) (a c t : ℕ) : Type 0 where
  pub valid : valid_decimation d ≡ true
  pub acc : a ≡ suc d.source.width
  pub coarse : c ≡ suc d.grid.width
  pub table : t ≡ payload_length d.grid.width d.grid.height

-- a whole row of a table
pub record RowRoom (g : Grid) (at n t : ℕ) : Type 0 where
  pub inside : at ≤ g.height
  pub full : n ≡ suc g.width
  pub table : t ≡ payload_length g.width g.height
