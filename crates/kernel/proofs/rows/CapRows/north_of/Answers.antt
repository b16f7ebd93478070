-- `kernel::rows::CapRows::north_of` meets its contract.
-- Assumes nothing.
use mathlib.Core.Path.{◌≡◌, ap}
use Prim.Native.Nat.{ℕ}
use Rattle.std.specs.declared.ops.Range.{Range}
use Rattle.std.proofs.lemmas.Grind.{common_steps}
use native.Mathlib.Omega.{arith}
use borrow.Author.Rules.{rules}
use borrow.Author.Tests.{tests}
use Rattle.kernel.specs.private.Rows.{row_reached_by}
use Rattle.kernel.proofs.Steps.{first_north}
use Rattle.kernel.proofs.rows.CapRows.north_of.Goals as goal

pub returns : goal.returns
returns c =
    let a = c.args.self in
    let k = c.find.ensures.ran in
    let h = first_north (row_reached_by a.grid a.cap) _ k.0 _ k.2.0 _ c.find.result k.1
    (record { found = λ x q w. search (rules, tests); passed = λ x q w. search (rules, tests) })
    (ap (λ (w : Range ℕ). w.start) c.rev.ensures.source) k.2.1 k.2.2 k.3 k.4 in
    let e : c.rev.result.iter.end ≡ c.args.centre = ap (λ (w : Range ℕ). w.end) c.rev.ensures.source in
    grind (arith, common_steps, h, e)
