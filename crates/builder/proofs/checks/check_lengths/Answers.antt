-- `builder::checks::check_lengths` meets its contract.
-- Assumes nothing.
use mathlib.Core.Path.{◌≡◌}
use borrow.Author.Rules.{rules}
use Rattle.refusal.specs.Refusal.{number_in, number_of}
use Rattle.refusal.proofs.Chains.{check_passed, check_failed, last_check}
use Rattle.builder.proofs.Builders.{lent_read}
use Rattle.builder.proofs.checks.check_lengths.Goals as goal

pub returns-in_err-refuse_if-2 : goal.returns-in_err-refuse_if-2
returns-in_err-refuse_if-2 c =
    let f1 = check_passed _ _ c.refuse_if.ensures c.in_ok-refuse_if.was in
    let f2 = check_failed _ _ c.refuse_if-2.ensures c.in_err-refuse_if-2.was in
    let e : number_in c.from_residual-in_err-refuse_if-2.result ≡ number_of c.in_err-refuse_if-2.field-0.0 = search rules in
    rw (e, f2.1, lent_read c.args.d c.args.lengths c.requires) (simp (← c.payload_len.ensures, f1, f2.0))

pub returns : goal.returns
returns c =
    let f1 = check_passed _ _ c.refuse_if.ensures c.in_ok-refuse_if.was in
    let f2 = check_passed _ _ c.refuse_if-2.ensures c.in_ok-refuse_if-2.was in
    rw (lent_read c.args.d c.args.lengths c.requires) (simp (← c.payload_len.ensures, f1, f2, c.refuse_if-3.ensures) (last_check _ _))
