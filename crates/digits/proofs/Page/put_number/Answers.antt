-- `digits::Page::put_number` meets its contract.
-- Assumes nothing.
use Rattle.std.proofs.Common.{refl, lit≤}
use Rattle.digits.proofs.Laying.{laid_then}
use Rattle.digits.proofs.Page.put_number.Goals as goal

pub returns : goal.returns
returns c = record { same = refl; laid = laid_then (c.lay_digits-next.ensures.decimal refl (lit≤ tt)) c.lay_byte.ensures }
