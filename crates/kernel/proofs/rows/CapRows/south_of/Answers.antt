-- `kernel::rows::CapRows::south_of` meets its contract.
-- Assumes nothing.
use mathlib.Core.Path.{refl}
use Prim.Native.Nat.{◌-◌}
use Rattle.std.proofs.lemmas.Grind.{common_steps}
use native.Mathlib.Omega.{arith}
use borrow.Author.Rules.{rules}
use borrow.Author.Tests.{tests}
use Rattle.kernel.specs.private.Rows.{row_reached_by}
use Rattle.kernel.proofs.Steps.{first_south}
use Rattle.kernel.proofs.rows.CapRows.south_of.Goals as goal

pub returns : goal.returns
returns c =
    let a = c.args.self in
    let k = c.find.ensures.ran in
    let h = first_south (row_reached_by a.grid a.cap) _ (a.grid.height - 1) k.0 _ k.2.0 _ c.find.result k.1
    (record { found = λ x q w. search (rules, tests); passed = λ x q w. search (rules, tests) })
    refl (omega arith) k.2.1 k.2.2 k.3 k.4 in
    grind (arith, common_steps, h)
