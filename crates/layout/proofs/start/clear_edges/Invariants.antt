-- `layout::start::clear_edges` meets its contract.
-- Assumes nothing.
use mathlib.Core.Path.{◌≡◌}
use Rattle.layout.proofs.Cleared.{rows_cleared}
use Rattle.layout.proofs.start.clear_edges.Given as goal

abbrev pub invariant-loop-row : goal.invariant-loop-row
invariant-loop-row l = l.table ≡ rows_cleared l.grid.width l.grid.height l.initial.table l.row
