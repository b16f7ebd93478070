-- `sqrt::small_root` meets its contract. Assumes nothing.
use Rattle.std.proofs.Common.{◌-◌, arith}
use lib.Count.{count_leading_zeros}
use Rattle.sqrt.proofs.Cases.{no_nan_pattern}
use Rattle.sqrt.proofs.Splits.{lacks, word, split_small, below_infinity, root_at}
use Rattle.sqrt.proofs.small_root.Goals as goal

pub overflow_sub-s : goal.overflow_sub-s
overflow_sub-s c = omega (arith, lacks c.args.b c.requires.0 c.requires.1)

pub by_digits-requires : goal.by_digits-requires
by_digits-requires c = (word _ _ c.requires.0 c.requires.1 (lacks c.args.b c.requires.0 c.requires.1)).1

pub float_from_bits-result : goal.float_from_bits-result
float_from_bits-result c = no_nan_pattern _ (below_infinity _ _ _ _ (split_small c.args.b (count_leading_zeros 64 c.args.b - 11) c.requires.0 c.requires.1 (lacks c.args.b c.requires.0 c.requires.1)) c.by_digits.ensures)

pub returns : goal.returns
returns c = root_at _ _ _ _ (split_small c.args.b (count_leading_zeros 64 c.args.b - 11) c.requires.0 c.requires.1 (lacks c.args.b c.requires.0 c.requires.1)) c.by_digits.ensures
