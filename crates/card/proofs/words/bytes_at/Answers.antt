-- `card::words::bytes_at` meets its contract.
-- Assumes nothing.
use Prim.Native.Nat.{ℕ, ◌+◌}
use native.Mathlib.Omega.{arith}
use lib.ListN.{get_or}
use borrow.Author.Rules.{rules}
use Rattle.card.proofs.Bytes.{each_given}
use Rattle.card.proofs.words.bytes_at.Goals as goal

pub returns : goal.returns
returns g c = λ k l.
    each_given _ _ (λ (i : ℕ). get_or c.args.card.now (c.args.at + i) 0) (λ i y q w. search rules) _ 0 _ c.from_fn.ensures.items.each k k 0 l (omega arith)
