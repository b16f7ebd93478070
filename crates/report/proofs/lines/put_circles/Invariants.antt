-- `report::lines::put_circles` meets its contract: the circles so far are laid.
-- Assumes nothing.
use Rattle.std.proofs.Common.{◌≡◌, length}
use Rattle.digits.specs.Laid.{Lays}
use Rattle.report.specs.Printed.{circles_text}
use Rattle.report.proofs.lines.put_circles.Given as goal

abbrev pub invariant-loop-i : goal.invariant-loop-i
invariant-loop-i l = record {
  laid : Lays l.initial.page (circles_text l.card.bytes.now l.card.header l.cells l.i) l.page;
  room : 1024 ≡ length l.widths;
}
