-- `stand_ins::downward` meets its contract: the turns that are left give what all of them give.
-- Assumes nothing.
use Rattle.std.proofs.Common.{◌≡◌}
use Rattle.stand_ins.specs.StandIns.{IsTurn, downward}
use Rattle.stand_ins.proofs.downward.Given as goal

abbrev pub invariant-loop-before : goal.invariant-loop-before
invariant-loop-before g l =
    (by : _) → IsTurn (goal.F-post g l.turn) by → downward by l.before l.s ≡ downward by l.from l.fn.seed
