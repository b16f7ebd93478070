-- `sqrt::by_digits` meets its contract.
-- Assumes nothing.
use Rattle.sqrt.proofs.Digits.{Down}
use Rattle.sqrt.proofs.by_digits.Given as goal

abbrev pub invariant-loop : goal.invariant-loop
invariant-loop l = Down l.v l.rest l.root l.rem l.counter
