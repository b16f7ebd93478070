-- `stand_ins::pairs::sines` meets its contract.
-- Assumes nothing.
use Rattle.std.proofs.Common.{rules}
use lib.Ieee.{binary64, mul}
use Rattle.stand_ins.specs.StandIns.{sin_of, sine_term}
use Rattle.stand_ins.proofs.Zeros.{sine_turns}
use Rattle.stand_ins.proofs.TwoSeries.{both_answers}
use Rattle.stand_ins.proofs.pairs.sines.Goals as goal

pub returns : goal.returns
returns c =
    let each = c.both-s.ensures sine_term (λ z k s r e. search rules) in
    both_answers sine_term (mul binary64) sin_of 2 10 sine_turns c.args.x c.args.y c.well_formed.0.1 c.well_formed.1.0.1 each.0 each.1
