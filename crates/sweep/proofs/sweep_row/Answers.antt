-- `sweep::sweep_row` meets its contract. The invariant: what is done, then what becomes of the rest, is what becomes of the whole.
-- Assumes nothing.
use Rattle.std.proofs.Common.{◌≡◌, ◌∙◌, refl, sym, arith, drop, length}
use Rattle.std.proofs.lemmas.Grind.{common_steps}
use Rattle.std.proofs.lemmas.Slice.{between_to_end}
use Rattle.std.proofs.Math.Nat.{le_refl}
use Rattle.raster.proofs.Tallies.{parts_held, one_more, tallies_held}
use Rattle.sweep.specs.private.Cell.{swept}
use Rattle.sweep.proofs.Sweeps.{end_acc, end_corr}
use Rattle.sweep.proofs.sweep_row.Goals as goal

pub loop-i-preserved : goal.loop-i-preserved
unfolding swept
loop-i-preserved c = record {
  cells = grind (arith, common_steps, one_more, tallies_held);
  sums = grind (arith, common_steps);
  corrections = grind (arith, common_steps);
  clean = grind (arith, common_steps);
  tallies = grind (arith, common_steps, one_more, tallies_held);
  digests = grind (arith, common_steps);
}

pub returns : goal.returns
returns c =
    let a = c.args in
    let l = c.loop-i in
    let n = c.min-swept.result in
    let at_end : l.i ≡ n = omega arith in
    let m = rw at_end at l.invariant in
    let e = rw (between_to_end l.row n (length l.row) (le_refl _)) at c.finish.ensures in (
      e.0 ∙ m.digests,
      parts_held a.nodata l.carry.so_far.tallies _ _ (drop n l.row) a.row.now (omega (arith, c.well_formed.1.1.0)) m.tallies refl e.1,
      sym (end_acc a.nodata l.carry l.row l.acc l.corr n (omega arith)) ∙ m.sums,
      sym (end_corr a.nodata l.carry l.row l.acc l.corr n (omega arith)) ∙ m.corrections,
      grind (arith, common_steps, e.2, m.clean),
    )
