-- `layout::place::payload_len` meets its contract.
-- Assumes nothing.
use native.Mathlib.Omega.{arith}
use Rattle.layout.proofs.Places.{blocks_fit}
use Rattle.layout.proofs.place.payload_len.Goals as goal

pub overflow_mul-blocks : goal.overflow_mul-blocks
overflow_mul-blocks c = omega (arith, blocks_fit _ _ _ _ c.blocks_over.ensures c.blocks_over-2.ensures (omega arith) (omega arith))
