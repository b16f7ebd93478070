-- `sqrt::by_digits` meets its contract.
-- Assumes nothing.
use Rattle.std.proofs.Common.{arith, ◌∙◌}
use Rattle.sqrt.proofs.Digits.{one_digit, zero_digit, done, halved, four_times_lem}
use Rattle.sqrt.proofs.by_digits.Goals as goal
use Rattle.sqrt.proofs.by_digits.Goals.{then-trial-down, else-trial-down}

pub loop-preserved : goal.loop-preserved
loop-preserved c =
    let d = c.loop.invariant in
    elim c.if-trial-down.branch [
      | then-trial-down w ↦ rw (w.root-is, w.rem-is) (one_digit _ _ _ _ _ d w.if-trial-down.true)
      | else-trial-down w ↦ rw (w.root-is, w.rem-is) (zero_digit _ _ _ _ _ d w.if-trial-down.false)
    ]

pub returns : goal.returns
returns c =
    let d = c.loop.invariant in
    halved _ _ _ (omega arith) ((done _ _ _ _ _ d (omega arith)).0 ∙ four_times_lem _) d.left
