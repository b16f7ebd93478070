-- `kernel::rows::CapRows::fill` meets its contract.
-- Assumes nothing.
use mathlib.Core.Path.{refl, ◌∙◌}
use native.Mathlib.Omega.{arith}
use Rattle.kernel.specs.private.Rows.{row_width_by, widths_after}
use Rattle.kernel.proofs.Steps.{width_turn, widths_all}
use Rattle.kernel.proofs.rows.CapRows.fill.Goals as goal

pub loop-i-init : goal.loop-i-init
unfolding widths_after
loop-i-init c = refl

pub loop-i-preserved : goal.loop-i-preserved
loop-i-preserved c =
    let a = c.args in
    let f = row_width_by a.self.grid a.self.cap in
    rw (c.half_width.ensures, c.loop-i.invariant) (width_turn f a.north c.loop-i.i a.half_widths.now (omega arith))

pub returns : goal.returns
returns c =
    let a = c.args in
    let f = row_width_by a.self.grid a.self.cap in
    c.loop-i.invariant ∙ widths_all f a.north c.loop-i.i a.half_widths.now (omega arith)
