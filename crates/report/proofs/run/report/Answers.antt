-- `report::run::report` meets its contract.
-- Assumes nothing.
use Rattle.std.proofs.Common.{◌≡◌, refl, Err, arith, rules}
use Rattle.report.proofs.Sizes.{emptied_table}
use Rattle.report.proofs.Building.{table_filled}
use Rattle.report.proofs.Reported.{report_whole, printed_refused}
use Rattle.report.proofs.run.report.Goals as goal

pub build-requires : goal.build-requires
build-requires c = emptied_table c.in_ok-card.card.accepted c.filled-table.ensures c.payload_len.ensures

pub put_circles-requires : goal.put_circles-requires
put_circles-requires c =
    record { whole = rw c.in_ok-built.ensures.filled (table_filled c.in_ok-card.card.accepted); placed = omega (arith, c.put_summary.ensures.laid.next) }

pub returns-in_err-card-clause-left : goal.returns-in_err-card-clause-left
returns-in_err-card-clause-left c =
    let e : c.from_residual.result ≡ Err c.in_err-card.field-0.0 = search rules in
    rw e (refl, printed_refused _ _ c.in_err-card.ensures)

pub returns-clause-laid : goal.returns-clause-laid
returns-clause-laid c =
    report_whole c.in_ok-card.ensures.0 c.in_ok-card.ensures.1 c.in_ok-card.card.accepted c.in_ok-built.ensures c.put_summary.ensures
    c.put_circles.ensures
