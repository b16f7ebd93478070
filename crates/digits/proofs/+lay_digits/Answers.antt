-- `digits::lay_digits` meets its contract.
-- Assumes nothing.
use Rattle.std.proofs.Common.{ℕ, ◌<◌, ◌≤◌, arith}
use Rattle.digits.proofs.Digits.{one_left, more_left, fewer_left, decimal_first, decimal_last, hex_last, hex_before}
use Rattle.digits.proofs.Laying.{laid_then}
use Rattle.digits.proofs.+lay_digits.Goals.{After-saturating_sub}
use Rattle.digits.proofs.+lay_digits.Goals as goal

pub returns-then-n-base-clause-decimal : goal.returns-then-n-base-clause-decimal
returns-then-n-base-clause-decimal t c e h =
    let one = one_left c.args.n c.args.base c.args.least c.if-n-base.true in
    rw (decimal_first c.args.n (omega arith), ← c.digit.ensures) c.lay_byte.ensures

-- where the digits before the last are laid first
more : {t : ℕ} (c : After-saturating_sub t) → c.args.n < c.args.base → 2 ≤ c.args.least
more c = more_left c.args.n c.args.base c.args.least c.if-n-base.false

pub lay_digits-next-requires : goal.lay_digits-next-requires
lay_digits-next-requires t c =
    let fewer = fewer_left c.args.n c.args.base c.args.least c.requires.0 (more c) in
    (omega arith, c.requires)

pub returns-clause-decimal : goal.returns-clause-decimal
returns-clause-decimal t c e h =
    let several = more (goal.at.returns-clause-decimal t c).After-saturating_sub in
    rw (decimal_last c.args.n c.args.base c.args.least e several h, ← c.cut-before.ensures.0, ← c.cut-before.ensures.1, ← c.digit-2.ensures)
    (laid_then (c.lay_digits-next.ensures.decimal e (omega arith)) c.lay_byte-2.ensures)

pub returns-clause-hex : goal.returns-clause-hex
returns-clause-hex t c e p h =
    let several = more (goal.at.returns-clause-hex t c).After-saturating_sub in
    let before = hex_before c.args.least c.args.n c.args.base e h several p in
    let laid = rw c.saturating_sub.ensures at (c.lay_digits-next.ensures.hex e) in
    rw (hex_last c.args.least c.args.n c.args.base e p, ← c.cut-before.ensures.0, ← c.cut-before.ensures.1, ← c.digit-2.ensures)
    (laid_then (laid before.0 (rw c.cut-before.ensures.0 before.1)) c.lay_byte-2.ensures)
