-- `float::to_bits` meets its contract.
-- Assumes nothing.
use lib.Ieee.{to_bits}
use Rattle.float.proofs.Patterns.{same_no_nan, differs_nan}
use Rattle.float.proofs.to_bits.Goals as goal

pub returns-then-x : goal.returns-then-x
unfolding to_bits
returns-then-x c = rw (differs_nan c.args.x c.if-x.true)

pub float_to_bits-result : goal.float_to_bits-result
float_to_bits-result c = same_no_nan c.args.x c.if-x.false
