-- `layout::map::check` meets its contract.
-- Assumes nothing.
use mathlib.Core.Path.{◌≡◌, refl, sym, ◌∙◌}
use mathlib.Core.Bool.{Bool, true, false, not}
use Prim.Native.Nat.{◌<◌}
use native.Mathlib.Omega.{arith}
use lib.ListN.{length}
use Rattle.std.specs.Prelude.{Ok}
use Rattle.refusal.specs.declared.Refusal.TheVariants as cause
use Rattle.refusal.specs.Refusal.{first, passed, checked, number_in, not_its_makers, wrong_table_length}
use Rattle.layout.specs.Rows.{right_rows}
use Rattle.layout.specs.Map.{map_refusal}
use Rattle.layout.proofs.Places.{is_right}
use Rattle.layout.proofs.Rows.{row_length_is}
use Rattle.layout.proofs.map.check.Goals as goal

-- the second check where the first is passed
second : (valid right : Bool) (u : Unit {0}) → checked (not valid) cause.NotItsMakers ≡ Ok u
    → number_in (checked (not right) cause.WrongTableLength) ≡ first (not valid) not_its_makers (first (not right) wrong_table_length passed)
second true true u e = refl
second true false u e = refl
second false right u e = cc

pub returns : goal.returns
unfolding map_refusal right_rows
returns c =
    let l : length c.args.blocks.now < 0xffff_ffff_ffff_ffff = omega arith in
    let ok = sym c.refuse_if.ensures ∙ c.in_ok-refuse_if.was in
    rw (
      c.refuse_if-2.ensures,
      is_right c.args.grid c.args.blocks.now _ l c.payload_len.ensures,
      row_length_is c.args.grid.width c.args.grid.height,
      ← c.is_valid.ensures,
    )
    (second _ _ _ ok)
