-- `kernel::rows::CapRows::fill` meets its contract.
-- Assumes nothing.
use mathlib.Core.Path.{◌≡◌}
use Rattle.kernel.specs.private.Rows.{row_width_by, widths_after}
use Rattle.kernel.proofs.rows.CapRows.fill.Given as goal

abbrev pub invariant-loop-i : goal.invariant-loop-i
invariant-loop-i l = l.half_widths ≡ widths_after (row_width_by l.self.grid l.self.cap) l.north l.i l.initial.half_widths
