-- `text::circle_refused_line` meets its contract.
-- Assumes nothing.
use Rattle.digits.proofs.Laying.{lays_then}
use Rattle.text.specs.Text.{circle_refused_line}
use Rattle.text.proofs.circle_refused_line.Goals as goal

pub returns : goal.returns
unfolding circle_refused_line
returns c = lays_then c.put_circle.ensures c.refused_line.ensures
