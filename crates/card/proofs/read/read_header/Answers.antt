-- `card::read::read_header` meets its contract.
-- Assumes nothing.
use mathlib.Core.Path.{◌≡◌}
use borrow.Author.Rules.{rules}
use Rattle.refusal.specs.Refusal.{answered}
use Rattle.decimation.specs.Decimation.{decimation_new}
use Rattle.card.specs.Words.{u32_at}
use Rattle.card.proofs.Headers.{few_cells}
use Rattle.card.proofs.read.read_header.Goals as goal

pub rows_of-requires : goal.rows_of-requires
rows_of-requires c =
    let g = c.in_ok-source.source in
    let d = c.in_ok-new.field-0 in
    let e : decimation_new g (u32_at c.args.card.now 44) ≡ answered d = search rules in
    few_cells c.args.card.now g d c.header_at-h.result e c.header_at-h.ensures
