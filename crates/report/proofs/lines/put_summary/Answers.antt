-- `report::lines::put_summary` meets its contract.
-- Assumes nothing.
use Rattle.digits.proofs.Laying.{lays_then}
use Rattle.report.proofs.lines.put_summary.Goals as goal

pub returns : goal.returns
returns c =
    lays_then (lays_then c.rows_line.ensures c.cells_line.ensures) c.total_line.ensures
