-- `report::run::put_text` meets its contract.
-- Assumes nothing.
use Rattle.std.proofs.Common.{arith}
use Rattle.report.proofs.Reported.{refused_whole}
use Rattle.report.proofs.run.put_text.Goals as goal

pub returns-in-Err : goal.returns-in-Err
returns-in-Err c =
    let left = c.in-Err.ensures.left in
    let line = rw (left.0, c.number.ensures) at c.refused_line.ensures in
    refused_whole c.args.card.now _ left.1 (omega (arith, c.number.ensures)) line
