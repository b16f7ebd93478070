-- `cap::CapTerms::walk_down` meets its contract.
-- Assumes nothing.
use mathlib.Core.Path.{◌≡◌}
use Rattle.cap.specs.Terms.{contained_by}
use Rattle.cap.specs.Walks.{descended}
use Rattle.cap.proofs.CapTerms.walk_down.Given as goal

abbrev pub invariant-loop-h : goal.invariant-loop-h
invariant-loop-h l = descended (contained_by l.self l.row) l.h ≡ descended (contained_by l.self l.row) l.start

abbrev pub decreases-loop-h : goal.decreases-loop-h
decreases-loop-h l = l.h
