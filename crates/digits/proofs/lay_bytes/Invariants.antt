-- `digits::lay_bytes` meets its contract: what was gone over is laid.
-- Assumes nothing.
use Rattle.std.proofs.Common.{take}
use Rattle.digits.specs.Laid.{Laid}
use Rattle.digits.proofs.lay_bytes.Given as goal

abbrev pub invariant-loop-b : goal.invariant-loop-b
invariant-loop-b l = Laid l.initial.out l.at (take l.b-index l.text) l.out l.next
