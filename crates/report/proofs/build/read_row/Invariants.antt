-- `report::build::read_row` meets its contract: the words that are filled, and those to come, are the row's.
-- Assumes nothing.
use Rattle.std.proofs.Common.{◌≡◌, ◌+◌, ◌*◌, ◌-◌, ◌++◌, length, take}
use Rattle.card.specs.Words.{words_at}
use Rattle.report.proofs.build.read_row.Given as goal

abbrev pub invariant-loop-j : goal.invariant-loop-j
invariant-loop-j l =
    take l.j l.row ++ words_at l.card.bytes.now (l.at + 4 * l.j) (length l.initial.row - l.j) ≡ words_at l.card.bytes.now l.at (length l.initial.row)
