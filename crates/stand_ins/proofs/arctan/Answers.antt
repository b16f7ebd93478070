-- `stand_ins::arctan` meets its contract.
-- Assumes nothing.
use lib.Ieee.{eq}
use Rattle.float.specs.Float.{f64zero}
use Rattle.stand_ins.proofs.Zeros.{arctan_turns}
use Rattle.stand_ins.proofs.arctan.Goals as goal

pub returns : goal.returns
returns c =
    rw (c.arctan_series.ensures, c.turns.ensures.0, c.halved-u.ensures, c.halved.ensures)
    (arctan_turns (eq c.args.t f64zero) c.args.t c.well_formed.0.1 (λ z. z))
