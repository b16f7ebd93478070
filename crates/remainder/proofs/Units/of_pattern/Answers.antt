-- `remainder::Units::of_pattern` meets its contract.
-- Assumes nothing.
use Rattle.remainder.proofs.Remainders.{units_low}
use Rattle.remainder.proofs.Units.of_pattern.Goals as goal

pub returns-then-p-lt-HIDDEN : goal.returns-then-p-lt-HIDDEN
returns-then-p-lt-HIDDEN c = units_low c.args.p c.if-p-lt-HIDDEN.true
