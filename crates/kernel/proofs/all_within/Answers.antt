-- `kernel::all_within` meets its contract.
-- Assumes nothing.
use mathlib.Core.Path.{◌≡◌, refl, subst}
use borrow.Author.Rules.{rules}
use borrow.Author.Tests.{tests}
use Rattle.std.proofs.lemmas.Fn.{fold_over, slice_gives, fronts}
use Rattle.kernel.specs.Kernel.{all_within}
use Rattle.kernel.proofs.Steps.{within_more}
use Rattle.kernel.proofs.all_within.Goals as goal

pub returns : goal.returns
returns c =
    subst (λ l. c.fold.result ≡ all_within c.args.most l) c.iter.ensures.rest
    (fold_over fronts (λ y. y.now) _ (λ ys b. b ≡ all_within c.args.most ys) _
    (λ ys a x b f' j k. let more = within_more c.args.most x.now ys in search (rules, tests))
    _ _ _ _ (slice_gives c.iter.result) refl c.fold.ensures.ran)
