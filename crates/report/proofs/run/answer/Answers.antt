-- `report::run::answer` meets its contract.
-- Assumes nothing.
use Rattle.std.proofs.Common.{◌∙◌, arith, rules}
use Rattle.report.proofs.Reported.{page_printed}
use Rattle.report.proofs.run.answer.Goals as goal

pub returns : goal.returns
returns c =
    let laid = page_printed c.new-page.ensures c.put_text.ensures.0 c.put_text.ensures.1 in
    (c.end.ensures ∙ laid.size, search (rules, laid.left), omega (arith, c.end.ensures, laid.bounded))
