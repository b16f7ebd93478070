-- `kernel::check` meets its contract.
-- Assumes nothing.
use mathlib.Core.Path.{◌≡◌}
use native.Mathlib.Omega.{arith}
use Rattle.std.proofs.lemmas.Grind.{common_steps}
use Rattle.refusal.specs.Refusal.{number_in}
use Rattle.kernel.specs.Kernel.{kernel_refusal}
use Rattle.kernel.proofs.Rules.{ready_where_ok}
use Rattle.kernel.proofs.check.Goals as goal

pub returns-clause-ready : goal.returns-clause-ready
unfolding kernel_refusal
returns-clause-ready c =
    let a = c.args in
    let e : number_in c.refuse_if-4.result ≡ kernel_refusal a.g a.centre a.radius a.lent = grind (arith, common_steps) in
    ready_where_ok a.g a.centre a.radius a.lent c.refuse_if-4.result e
