-- `kernel::Kernel::new` meets its contract.
-- Assumes nothing.
use mathlib.Core.Path.{◌≡◌, ap}
use lib.ListN.{length}
use borrow.Author.Rules.{rules}
use Rattle.refusal.specs.Refusal.{answered}
use Rattle.kernel.specs.Kernel.{kernel_refusal, kernel_new}
use Rattle.kernel.proofs.Together.{made_point, made_cap, fill_front}
use Rattle.kernel.proofs.Kernel.new.Goals as goal

pub returns-then-radius : goal.returns-then-radius
unfolding kernel_new
returns-then-radius c =
    let a = c.args in
    let z : kernel_refusal a.grid a.centre a.radius (length a.half_widths.now) ≡ 0 = search rules in
    let m = made_point a.grid a.centre a.radius a.half_widths.now c.if-radius.true in
    rw z (ap answered m.0, m.1)

pub returns : goal.returns
unfolding kernel_new
returns c =
    let a = c.args in
    let z : kernel_refusal a.grid a.centre a.radius (length a.half_widths.now) ≡ 0 = search rules in
    let m = made_cap a.grid a.centre a.radius a.half_widths.now _ _ _ _ _ _ c.if-radius.false c.lat_at.ensures
    c.cap_over.ensures
    c.terms-cap.ensures c.north_of-north.ensures.0 c.south_of.ensures.0 (fill_front _ _ _ _ _ c.fill.ensures (search rules)) in
    rw z (ap answered m.0, m.1)
