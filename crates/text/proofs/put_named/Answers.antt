-- `text::put_named` meets its contract.
-- Assumes nothing.
use Rattle.digits.proofs.Laying.{lays_then}
use Rattle.text.proofs.put_named.Goals as goal

pub returns : goal.returns
returns c = lays_then c.put_bytes.ensures c.put_number.ensures
