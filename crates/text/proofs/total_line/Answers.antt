-- `text::total_line` meets its contract.
-- Assumes nothing.
use Rattle.digits.proofs.Laying.{lays_then}
use Rattle.text.specs.Text.{total_line}
use Rattle.text.proofs.total_line.Goals as goal

pub returns : goal.returns
unfolding total_line
returns c = lays_then c.put_bytes.ensures c.put_shown.ensures
