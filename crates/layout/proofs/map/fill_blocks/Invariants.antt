-- `layout::map::fill_blocks` meets its contract.
-- Assumes nothing.
use mathlib.Core.Path.{◌≡◌}
use Prim.Native.Nat.{◌*◌, ◌<◌}
use Rattle.layout.specs.Place.{blocks_over, cell_at}
use Rattle.layout.specs.Map.{to_blocks}
use Rattle.layout.proofs.Entries.{copied}
use Rattle.layout.proofs.map.fill_blocks.Given as goal

abbrev pub invariant-loop-value : goal.invariant-loop-value
invariant-loop-value l =
    (cell_at l.grid.width l.cell.row l.cell.col ≡ l.value-index) × (l.cell.col < blocks_over l.grid.width * 8)
    × (l.blocks ≡ copied l.initial.blocks (to_blocks l.grid.width l.grid.height l.rows) l.value-index)
