-- `layout::place::TableCell::place` meets its contract.
-- Assumes nothing.
use native.Mathlib.Omega.{arith}
use Rattle.layout.proofs.Places.{place_is}
use Rattle.layout.proofs.TableCell.place.Goals as goal

pub overflow_mul-result : goal.overflow_mul-result
overflow_mul-result c = let a = c.args in omega (arith, place_is a.width a.self.row a.self.col _ c.blocks_over.ensures, c.requires)
