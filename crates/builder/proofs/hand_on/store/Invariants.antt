-- `builder::hand_on::store` meets its contract.
-- Assumes nothing.
use mathlib.Core.Path.{◌≡◌}
use Rattle.builder.specs.private.Runs.{stored}
use Rattle.builder.proofs.hand_on.store.Given as goal

abbrev pub invariant-loop-i : goal.invariant-loop-i
invariant-loop-i l = l.dst ≡ stored l.initial.dst l.at l.cells 0 l.i
