-- `table::Table::rectangle_sum` meets its contract.
-- Assumes nothing.
use mathlib.Core.Path.{refl, ◌∙◌}
use native.Mathlib.Omega.{arith}
use Rattle.table.specs.Rectangle.{rectangle_sum}
use Rattle.table.specs.declared.ColSpan.TheVariants.{FullTurn}
use Rattle.table.proofs.Checks.{held_columns, lines_ordered, lines_inside, sum_by_lines}
use Rattle.table.proofs.Table.rectangle_sum.Goals as goal

pub box_sum-requires : goal.box_sum-requires
box_sum-requires c =
    let h = c.requires in
    (lines_ordered _ _ _ _ h _ refl _ c.lines-lines.ensures, omega arith, lines_inside _ _ _ _ h _ refl _ c.lines-lines.ensures)

pub through-requires : goal.through-requires
through-requires c =
    let h = c.requires in
    let on = held_columns _ _ _ _ h _ _ c.in-Through.is in
    (lines_ordered _ _ _ _ h _ refl _ c.lines-lines.ensures, on.0, on.1, lines_inside _ _ _ _ h _ refl _ c.lines-lines.ensures)

pub returns-in-FullTurn : goal.returns-in-FullTurn
unfolding rectangle_sum
returns-in-FullTurn c = rw c.in-FullTurn.is (c.box_sum.ensures ∙ sum_by_lines _ _ _ _ c.lines-lines.ensures FullTurn)

pub returns-in-Through : goal.returns-in-Through
returns-in-Through c = rw c.in-Through.is (c.through.ensures ∙ sum_by_lines _ _ _ _ c.lines-lines.ensures _)
