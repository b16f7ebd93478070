-- `table::Table::full_turn_sum` meets its contract.
-- Assumes nothing.
use mathlib.Core.Path.{refl, ◌∙◌}
use native.Mathlib.Omega.{arith}
use lib.Ieee.{of_bits}
use Rattle.table.specs.Rectangle.{rectangle_sum}
use Rattle.table.proofs.Checks.{held_facts, held_by_lines, not_held, lines_ordered, lines_inside}
use Rattle.table.proofs.Table.full_turn_sum.Goals as goal

pub returns-then-not-holds : goal.returns-then-not-holds
unfolding of_bits
returns-then-not-holds c = not_held _ _ _ _ _ c.holds.ensures c.if-not-holds.true

pub box_sum-requires : goal.box_sum-requires
box_sum-requires c =
    let h = held_facts _ _ _ _ _ c.holds.ensures c.if-not-holds.false in
    (lines_ordered _ _ _ _ h _ refl _ c.lines.ensures, omega arith, lines_inside _ _ _ _ h _ refl _ c.lines.ensures)

pub returns : goal.returns
unfolding rectangle_sum
returns c = c.box_sum.ensures ∙ held_by_lines _ _ _ _ (held_facts _ _ _ _ _ c.holds.ensures c.if-not-holds.false) _ c.lines.ensures
