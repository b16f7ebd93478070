-- `sqrt::sqrt` meets its contract. Assumes nothing.
use Rattle.std.proofs.Common.{◌≡◌, T, sym, ap, ◌∙◌, subst, arith}
use lib.Ieee.{Float, binary64, fits, of_bits, to_bits}
use lib.Ieee.Bits.{of_bits-to_bits}
use Rattle.sqrt.specs.Sqrt.{sqrt_of}
use Rattle.sqrt.proofs.Cases.{of_nan, of_negative, of_rest, no_nan, no_nan_pattern}
use Rattle.sqrt.proofs.Splits.{split_normal, below_infinity, root_at}
use Rattle.sqrt.proofs.sqrt.Goals as goal

-- what owning an `f64` tells: the format holds it, so that its pattern is the whole of it
back : (x : Float) → T (fits binary64 x) → sqrt_of binary64 (of_bits binary64 (to_bits binary64 x)) ≡ sqrt_of binary64 x
back x h = ap (sqrt_of binary64) (of_bits-to_bits binary64 x h)

pub returns-then-x : goal.returns-then-x
returns-then-x c = of_nan c.args.x c.if-x.true

pub float_to_bits-b : goal.float_to_bits-b
float_to_bits-b c = no_nan c.args.x c.if-x.false

pub overflow_add-result-then-wrapping_sub_u64-lt2046 : goal.overflow_add-result-then-wrapping_sub_u64-lt2046
overflow_add-result-then-wrapping_sub_u64-lt2046 c = omega (arith, below_infinity _ _ _ _ (split_normal _ (omega arith) (omega arith)) c.whole_root.ensures)

pub float_from_bits-result : goal.float_from_bits-result
float_from_bits-result c = no_nan_pattern _ (below_infinity _ _ _ _ (split_normal _ (omega arith) (omega arith)) c.whole_root.ensures)

pub returns-then-wrapping_sub_u64-lt2046 : goal.returns-then-wrapping_sub_u64-lt2046
returns-then-wrapping_sub_u64-lt2046 c = root_at _ _ _ _ (split_normal _ (omega arith) (omega arith)) c.whole_root.ensures ∙ back c.args.x (subst T (sym c.well_formed.0.1) tt)

pub returns-then-x-2 : goal.returns-then-x-2
returns-then-x-2 c = of_negative c.args.x c.if-x-2.true

pub returns-then-wrapping_sub_u64 : goal.returns-then-wrapping_sub_u64
returns-then-wrapping_sub_u64 c =
    c.small_root.ensures ∙ back c.args.x (subst T (sym c.well_formed.0.1) tt)

pub returns : goal.returns
returns c =
    of_rest c.args.x (subst T (sym c.well_formed.0.1) tt) c.if-x.false c.if-x-2.false (λ p. omega (arith, p))
