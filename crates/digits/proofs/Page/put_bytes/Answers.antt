-- `digits::Page::put_bytes` meets its contract.
-- Assumes nothing.
use Rattle.std.proofs.Common.{refl}
use Rattle.digits.proofs.Page.put_bytes.Goals as goal

pub returns : goal.returns
returns c = record { same = refl; laid = c.lay_bytes.ensures }
