-- `layout::map::fill_rows` meets its contract.
-- Assumes nothing.
use mathlib.Core.Path.{◌≡◌}
use Prim.Native.Nat.{◌≤◌}
use Rattle.layout.specs.Rows.{row_cell_at}
use Rattle.layout.specs.Map.{to_rows}
use Rattle.layout.proofs.Entries.{copied}
use Rattle.layout.proofs.map.fill_rows.Given as goal

abbrev pub invariant-loop-value : goal.invariant-loop-value
invariant-loop-value l =
    (row_cell_at l.grid.width l.cell.row l.cell.col ≡ l.value-index) × (l.cell.col ≤ l.grid.width)
    × (l.rows ≡ copied l.initial.rows (to_rows l.grid.width l.grid.height l.blocks) l.value-index)
