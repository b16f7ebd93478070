-- `recount::one_card` meets its contract.
use Rattle.std.proofs.Common.{arith}
use Rattle.recount.proofs.Name.{is_text}
use Rattle.recount.proofs.one_card.Goals as goal

pub unwrap-name-requires : goal.unwrap-name-requires
unwrap-name-requires g c = is_text _ _ _ _ _ (omega arith) (omega arith) c.from_utf8.ensures.cases
