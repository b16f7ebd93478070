-- `table::Table::through_sum` meets its contract.
-- Assumes nothing.
use mathlib.Core.Path.{refl, ◌∙◌}
use lib.Ieee.{of_bits}
use Rattle.table.proofs.Checks.{held_facts, held_columns, held_by_lines, not_held, lines_ordered, lines_inside}
use Rattle.table.proofs.Table.through_sum.Goals as goal

pub returns-then-not-holds : goal.returns-then-not-holds
unfolding of_bits
returns-then-not-holds c = not_held _ _ _ _ _ c.holds.ensures c.if-not-holds.true

pub through-requires : goal.through-requires
through-requires c =
    let h = held_facts _ _ _ _ _ c.holds.ensures c.if-not-holds.false in
    let on = held_columns _ _ _ _ h _ _ refl in
    (lines_ordered _ _ _ _ h _ refl _ c.lines.ensures, on.0, on.1, lines_inside _ _ _ _ h _ refl _ c.lines.ensures)

pub returns : goal.returns
returns c = c.through.ensures ∙ held_by_lines _ _ _ _ (held_facts _ _ _ _ _ c.holds.ensures c.if-not-holds.false) _ c.lines.ensures
