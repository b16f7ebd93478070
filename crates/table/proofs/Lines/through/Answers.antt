-- `table::Lines::through` meets its contract.
-- Assumes nothing.
use Prim.Native.Nat.{◌+◌}
use native.Mathlib.Omega.{arith}
use native.Mathlib.Numerals.{add-one}
use borrow.Author.Tests.{le-leb, lt-leb}
use Rattle.layout.proofs.Places.{runs_in_order}
use Rattle.table.specs.Rectangle.{rectangle_sum}
use Rattle.table.proofs.Checks.{first_piece}
use Rattle.table.proofs.Lines.through.Goals as goal

pub first_end-requires : goal.first_end-requires
first_end-requires c = c.requires.2

pub box_sum-first-requires : goal.box_sum-first-requires
box_sum-first-requires c =
    let a = c.args in
    let p = c.requires in
    let piece = first_piece a.width a.west a.east p.1 p.2 in
    rw c.first_end.ensures (p.0, piece.0, omega (arith, p.3, runs_in_order _ _ piece.1))

pub returns-then-west-east : goal.returns-then-west-east
unfolding rectangle_sum
returns-then-west-east c =
    let inside = le-leb c.args.west.0 c.args.east.0 (omega arith) in
    rw (c.box_sum-first.ensures, c.first_end.ensures, inside)

pub box_sum-requires : goal.box_sum-requires
box_sum-requires c =
    let p = c.requires in
    (p.0, omega arith, omega (arith, p.3, runs_in_order (c.args.east.0 + 1) c.args.width (omega (arith, p.2))))

pub returns : goal.returns
unfolding rectangle_sum
returns c =
    rw (c.box_sum.ensures, c.box_sum-first.ensures, c.first_end.ensures, lt-leb c.args.west.0 c.args.east.0 (omega arith), add-one)
