-- `layout::start::clear_from` meets its contract.
-- Assumes nothing.
use mathlib.Core.Path.{◌≡◌}
use Rattle.layout.proofs.Cleared.{row_cleared}
use Rattle.layout.proofs.start.clear_from.Given as goal

abbrev pub invariant-loop-col : goal.invariant-loop-col
invariant-loop-col l = l.table ≡ row_cleared l.width l.row l.initial.table l.from l.col
