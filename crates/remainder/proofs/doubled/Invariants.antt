-- `remainder::doubled` meets its contract.
-- Assumes nothing.
use Rattle.std.proofs.Common.{◌≡◌, ◌-◌, ◌*◌, ◌%◌, ◌^◌, ◌<◌}
use Rattle.remainder.proofs.doubled.Given as goal

abbrev pub invariant-loop : goal.invariant-loop
invariant-loop l = (l.r * 2 ^ (l.n - 11 * l.counter) % l.by ≡ l.m * 2 ^ l.n % l.by) × (l.r < 2 ^ 53)
