-- `cap::CapTerms::walk_up` meets its contract.
-- Assumes nothing.
use mathlib.Core.Path.{◌≡◌}
use Prim.Native.Nat.{◌≤◌, ◌-◌}
use Rattle.cap.specs.Terms.{contained_by}
use Rattle.cap.specs.Walks.{climbed}
use Rattle.cap.proofs.CapTerms.walk_up.Given as goal

abbrev pub invariant-loop-h : goal.invariant-loop-h
invariant-loop-h l =
    (l.h ≤ l.self.closing) × (climbed (contained_by l.self l.row) l.self.closing l.h ≡ climbed (contained_by l.self l.row) l.self.closing l.start)

abbrev pub decreases-loop-h : goal.decreases-loop-h
decreases-loop-h l = l.self.closing - l.h
