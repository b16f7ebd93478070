-- `digits::lay_digits` meets its contract. Each call has fewer digits to lay, of a smaller number or of those asked for.
-- Assumes nothing.
use Rattle.std.proofs.Common.{◌+◌}
use Rattle.digits.proofs.+lay_digits.Given as goal

abbrev pub decreases-lay_digits : goal.decreases-lay_digits
decreases-lay_digits l = l.n + l.least
