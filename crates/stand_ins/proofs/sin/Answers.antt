-- `stand_ins::sin` meets its contract.
-- Assumes nothing.
use Rattle.std.proofs.Common.{rules}
use lib.Ieee.{eq, binary64, mul}
use Rattle.float.specs.Float.{f64zero}
use Rattle.stand_ins.specs.StandIns.{sine_term}
use Rattle.stand_ins.proofs.Zeros.{sine_turns}
use Rattle.stand_ins.proofs.sin.Goals as goal

pub returns : goal.returns
returns c =
    let x = c.args.x in
    rw (c.downward.ensures (sine_term (mul binary64 x x)) (λ k s r e. search rules), c.turns.ensures.0)
    (sine_turns (eq x f64zero) x c.well_formed.0.1 (λ e. e))
