-- `report::lines::put_circles` meets its contract.
-- Assumes nothing.
use Rattle.std.proofs.Common.{◌≡◌, sym, ◌∙◌, add-one, arith}
use Rattle.digits.proofs.Laying.{lays_none, lays_then}
use Rattle.report.proofs.Sizes.{grid_valid, sizes, filled_length}
use Rattle.report.proofs.lines.put_circles.Goals as goal

pub loop-i-init : goal.loop-i-init
loop-i-init c =
    record { laid = lays_none _ (omega arith) c.requires.placed; room = filled_length 1024 _ c.filled-widths.ensures }

pub people_in-counted-requires : goal.people_in-counted-requires
people_in-counted-requires c =
    let accepted = c.args.card.accepted in
    record { grid = grid_valid accepted; right = c.requires.whole; room = omega (arith, c.loop-i.invariant.room, (sizes accepted).lines) }

pub loop-i-preserved : goal.loop-i-preserved
loop-i-preserved c =
    let line = rw (c.people_in-counted.ensures, c.circle.ensures) at c.put_circle.ensures in
    record {
      laid = rw add-one (lays_then c.loop-i.invariant.laid line);
      room = c.loop-i.invariant.room ∙ sym c.people_in-counted.auto.widths;
    }

pub returns : goal.returns
returns c =
    let all : c.loop-i.i ≡ c.args.card.header.circles = omega arith in
    rw all at c.loop-i.invariant.laid
