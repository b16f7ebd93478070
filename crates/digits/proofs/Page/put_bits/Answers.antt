-- `digits::Page::put_bits` meets its contract.
-- Assumes nothing.
use Rattle.std.proofs.Common.{refl, lit<, arith}
use Rattle.digits.proofs.Laying.{laid_then}
use Rattle.digits.proofs.Page.put_bits.Goals as goal

pub returns : goal.returns
returns c =
    record {
      same = refl;
      laid = laid_then (laid_then c.lay_bytes-first.ensures (c.lay_digits-next.ensures.hex refl (lit< tt) (omega arith))) c.lay_byte.ensures;
    }
