-- `stand_ins::pairs::both` meets its contract.
-- Assumes nothing.
use Rattle.std.proofs.Common.{rules}
use lib.Ieee.{binary64, mul}
use Rattle.stand_ins.proofs.TwoSeries.{turns_of, each_alone}
use Rattle.stand_ins.proofs.pairs.both.Goals as goal

pub returns : goal.returns
returns g c = λ by is_turn.
    let t = by (mul binary64 c.args.x c.args.x) in
    let u = by (mul binary64 c.args.y c.args.y) in
    each_alone t u c.turns.ensures.0 (c.downward.ensures (turns_of t u) (λ k p r e. search rules))
