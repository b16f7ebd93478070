-- `builder::hand_on::emit` meets its contract.
-- Assumes nothing.
use mathlib.Core.Path.{◌≡◌}
use Prim.Native.Nat.{◌*◌}
use Rattle.builder.specs.private.Runs.{laid_runs}
use Rattle.builder.proofs.hand_on.emit.Given as goal

abbrev pub invariant-loop-k : goal.invariant-loop-k
invariant-loop-k l = l.dst ≡ laid_runs 0 l.initial.dst l.src 0 (l.k * 8)
