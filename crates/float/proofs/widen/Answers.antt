-- `float::widen` meets its contract.
-- Assumes nothing.
use Rattle.std.proofs.Common.{sym}
use lib.Ieee.{binary32, of_bits}
use Rattle.float.proofs.Patterns.{pattern_number, pattern_nan, widens}
use Rattle.float.proofs.widen.Goals as goal

pub returns-then-b-gt2139095040 : goal.returns-then-b-gt2139095040
unfolding of_bits
returns-then-b-gt2139095040 c = sym (pattern_nan binary32 _ c.if-b-gt2139095040.true)

pub float_from_bits-result : goal.float_from_bits-result
float_from_bits-result c = rw (pattern_number binary32 _ c.if-b-gt2139095040.false) tt

pub float_to_float-result : goal.float_to_float-result
float_to_float-result c = widens c.args.b c.if-b-gt2139095040.false
