-- `card::AcceptedCard::read` meets its contract.
-- Assumes nothing.
use mathlib.Core.Path.{◌≡◌}
use borrow.Author.Rules.{rules}
use Rattle.refusal.specs.Refusal.{answered}
use Rattle.card.specs.Card.{read_header}
use Rattle.card.proofs.Headers.{accepted}
use Rattle.card.proofs.AcceptedCard.read.Goals as goal

pub invariant_of-result : goal.invariant_of-result
invariant_of-result c =
    let e : read_header c.args.bytes.now ≡ answered c.in_ok-header.header = search rules in
    record { accepted = accepted c.args.bytes.now c.in_ok-header.header e }
