-- `circle::Circle::sum` meets its contract. The loop's invariant: the people so far, and then those of the rows left, are those of all rows.
-- Assumes nothing.
use mathlib.Core.Path.{◌≡◌}
use Prim.Native.Nat.{◌+◌}
use lib.ListN.{drop}
use Rattle.float.specs.Float.{f64zero}
use Rattle.layout.specs.Place.{corner}
use Rattle.circle.specs.Circle.{circle_from}
use Rattle.circle.proofs.Circle.sum.Given as goal

abbrev pub invariant-loop-i : goal.invariant-loop-i
invariant-loop-i l =
    circle_from l.self.table.grid.width (corner l.self.table.grid.width l.self.table.cells.now) l.self.centre.0 (l.north + l.i) (drop l.i l.widths) l.people
    ≡ circle_from l.self.table.grid.width (corner l.self.table.grid.width l.self.table.cells.now) l.self.centre.0 l.north l.widths f64zero
