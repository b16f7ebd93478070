-- `stand_ins::pairs::cosines` meets its contract.
-- Assumes nothing.
use Rattle.std.proofs.Common.{rules}
use Rattle.stand_ins.specs.StandIns.{cos_of, cosine_term}
use Rattle.stand_ins.proofs.Zeros.{cosine_turns}
use Rattle.stand_ins.proofs.TwoSeries.{both_answers}
use Rattle.stand_ins.proofs.pairs.cosines.Goals as goal

pub returns : goal.returns
returns c =
    let each = c.both.ensures cosine_term (λ z k s r e. search rules) in
    both_answers cosine_term (λ x c. c) cos_of 1 15 cosine_turns c.args.x c.args.y c.well_formed.0.1 c.well_formed.1.0.1 each.0 each.1
