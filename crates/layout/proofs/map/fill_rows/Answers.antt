-- `layout::map::fill_rows` meets its contract.
-- Assumes nothing.
use native.Mathlib.Omega.{arith}
use Rattle.layout.proofs.Maps.{row_within}
use Rattle.layout.proofs.map.fill_rows.Goals as goal

pub bounds-blocks-place : goal.bounds-blocks-place
bounds-blocks-place c =
    let l = c.loop-value in
    rw c.place.ensures (row_within _ _ _ _ _ _ _ l.invariant.0 l.invariant.1 (omega arith) c.requires.rows c.requires.blocks)
