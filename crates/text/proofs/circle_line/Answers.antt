-- `text::circle_line` meets its contract.
-- Assumes nothing.
use Rattle.digits.proofs.Laying.{lays_parts}
use Rattle.digits.specs.Digits.{shown, newline}
use Rattle.text.specs.Text.{circle_line}
use Rattle.text.proofs.circle_line.Goals as goal

pub returns : goal.returns
unfolding circle_line
returns c = lays_parts (shown c.args.people) newline c.put_circle.ensures c.put_shown.ensures
