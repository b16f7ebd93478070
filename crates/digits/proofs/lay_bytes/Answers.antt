-- `digits::lay_bytes` meets its contract.
-- Assumes nothing.
use Rattle.std.proofs.Common.{add-one, arith, take-suc}
use Rattle.digits.proofs.Laying.{laid_then}
use Rattle.digits.proofs.lay_bytes.Goals as goal

pub loop-b-preserved : goal.loop-b-preserved
loop-b-preserved c =
    rw (add-one, take-suc c.args.text.now c.loop-b.b-index 0 (omega arith)) (laid_then c.loop-b.invariant c.lay_byte-next.ensures)
