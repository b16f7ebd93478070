-- What the private steps of `report` go by: what a build leaves, what a circle is counted on, the text.
use Rattle.std.specs.Prelude.{List, true, ◌≡◌, ℕ, ◌≤◌, length, Float}
use Rattle.std.proofs.lemmas.List.Edits.{sets}
use Rattle.refusal.specs.Refusal.{Outcome, answered}
use Rattle.grid.specs.declared.Grid.{Grid}
use Rattle.grid.specs.Grid.{valid_grid}
use Rattle.layout.specs.Place.{payload_length}
use Rattle.builder.specs.declared.BuiltTable.{BuiltTable}
use Rattle.builder.specs.Build.{built_table}
use Rattle.card.specs.declared.Header.{Header}
use Rattle.report.specs.Printed.{Building, built_from}

-- the card's build with every row in
abbrev pub whole_build : List ℕ → Header → Building
whole_build card h = built_from card h h.decimation.source.height

-- what a finish answers, and its cells, are those of the whole build
pub record Finished (card : List ℕ) (h : Header) (answer : Outcome BuiltTable) (cells : List Float) : Type 0 where
  pub table : answer ≡ answered (built_table (whole_build card h).builder (whole_build card h).lent)
  pub filled : cells ≡ (whole_build card h).lent.table

-- what a circle is counted on: a valid grid, its whole table, room for a half-width of each row
pub record Countable (g : Grid) (cells : List Float) (widths : List ℕ) : Type 0 where
  pub grid : valid_grid g ≡ true
  pub right : length cells ≡ payload_length g.width g.height
  pub room : g.height ≤ length widths

-- a text was laid over a buffer from its front on; n is its length
pub record Printed (text before after : List ℕ) (n : ℕ) : Type 0 where
  pub size : n ≡ length text
  pub left : after ≡ sets before 0 text
  pub bounded : n ≤ 139333
