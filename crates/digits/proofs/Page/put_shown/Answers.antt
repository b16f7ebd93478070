-- `digits::Page::put_shown` meets its contract: a number that is no count.
-- Assumes nothing.
use Rattle.digits.proofs.Counts.{shown_bits}
use Rattle.digits.proofs.Page.put_shown.Goals as goal

pub returns-in-None : goal.returns-in-None
returns-in-None c = rw (shown_bits c.args.x c.in-None.ensures, ← c.to_bits.ensures) c.put_bits.ensures
