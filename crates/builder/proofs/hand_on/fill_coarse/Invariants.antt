-- `builder::hand_on::fill_coarse` meets its contract.
-- Assumes nothing.
use mathlib.Core.Path.{◌≡◌}
use Rattle.layout.proofs.Entries.{copied}
use Rattle.builder.specs.Rows.{sampled}
use Rattle.builder.proofs.hand_on.fill_coarse.Given as goal

abbrev pub invariant-loop-j : goal.invariant-loop-j
invariant-loop-j l = l.coarse ≡ copied l.initial.coarse (sampled l.acc l.factor l.initial.coarse) l.j
