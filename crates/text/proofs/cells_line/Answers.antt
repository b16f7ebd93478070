-- `text::cells_line` meets its contract.
-- Assumes nothing.
use Rattle.digits.proofs.Laying.{lays_parts}
use Rattle.digits.specs.Digits.{decimal, space, newline}
use Rattle.text.specs.Text.{cells_line}
use Rattle.text.proofs.cells_line.Goals as goal

pub returns : goal.returns
unfolding cells_line
returns c =
    let t = c.args.t in
    lays_parts (decimal t.unbounded) newline
    (lays_parts (decimal t.populated) space
    (lays_parts (decimal t.zero) space
    (lays_parts (decimal t.negative) space
    (lays_parts (decimal t.nodata) space c.put_bytes.ensures c.put_number.ensures)
    c.put_number-2.ensures) c.put_number-3.ensures) c.put_number-4.ensures) c.put_number-5.ensures
