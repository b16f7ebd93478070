-- `remainder::rem` meets its contract.
-- Assumes nothing.
use Rattle.std.proofs.Common.{sym, subst, ◌∙◌, T}
use Rattle.remainder.proofs.Remainders.{both_numbers, both_finite}
use Rattle.remainder.proofs.rem.Goals as goal

pub returns : goal.returns
returns c =
    let numbers = both_numbers c.to_bits-b.result c.to_bits-c.result c.if-p-c.false in
    c.float.ensures
    ∙ both_finite c.args.x c.args.m c.to_bits-b.result c.to_bits-c.result (subst T (sym c.well_formed.0.1) tt)
    (subst T (sym c.well_formed.1.0.1) tt) c.to_bits-b.ensures c.to_bits-c.ensures
    _ _ _ _ _ c.of_pattern.ensures c.of_pattern-2.ensures numbers.2 c.remainder.ensures
