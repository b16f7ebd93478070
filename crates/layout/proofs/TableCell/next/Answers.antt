-- `layout::walk::TableCell::next` meets its contract.
-- Assumes nothing.
use Rattle.layout.proofs.Places.{behind_in_run, behind_run, behind_block, behind_line}
use Rattle.layout.proofs.TableCell.next.Goals as goal

pub returns-then-col-lt7 : goal.returns-then-col-lt7
returns-then-col-lt7 c = behind_in_run _ _ _ c.if-col-lt7.true c.requires.0

pub returns-then-row-lt7 : goal.returns-then-row-lt7
returns-then-row-lt7 c = behind_run _ _ _ c.if-col-lt7.false c.if-row-lt7.true c.requires.0

pub returns-then-col-width : goal.returns-then-col-width
returns-then-col-width c = behind_block _ _ _ c.if-col-lt7.false c.if-row-lt7.false c.if-col-width.true

pub returns : goal.returns
returns c = behind_line _ _ _ c.if-col-lt7.false c.if-row-lt7.false c.if-col-width.false c.requires.0
