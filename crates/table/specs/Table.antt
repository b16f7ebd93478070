-- Document 01, 'Records' (`Table::new` of table.rs): a table is its grid and cells of the right number.
use Rattle.std.specs.Prelude.{List, not, Float, Result, Ok, Err}
use Rattle.refusal.specs.declared.Refusal.{Refusal}
use Rattle.refusal.specs.Refusal.{Outcome, answered, refused, number_of, first, passed, outcome, not_its_makers, wrong_table_length}
use Rattle.grid.specs.declared.Grid.{Grid}
use Rattle.grid.specs.Grid.{valid_grid}
use Rattle.layout.specs.Place.{right_table}
use Rattle.table.specs.declared.Table.{Table}

-- what a maker's answer is in document 01's terms: the grid, since the cells are those that it was given
abbrev pub table_outcome : Result Table Refusal → Outcome Grid
table_outcome (Ok t) = answered t.grid
table_outcome (Err r) = refused (number_of r)

-- `Table::new`: 22, 11
unfoldable pub table_new : Grid → List Float → Outcome Grid
table_new g cells = outcome (first (not (valid_grid g)) not_its_makers (first (not (right_table g cells)) wrong_table_length passed)) g
