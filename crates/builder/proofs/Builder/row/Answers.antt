-- `builder::Builder::row` meets its contract.
-- Assumes nothing.
use native.Mathlib.Omega.{arith}
use borrow.Author.Rules.{rules}
use Rattle.builder.specs.Lent.{buffers_lent}
use Rattle.builder.proofs.Calls.{row_taken, room_left, row_next}
use Rattle.builder.proofs.Builder.row.Goals as goal

pub hand_on-requires : goal.hand_on-requires
hand_on-requires c =
    let a = c.args in
    room_left a.self a.row.now (buffers_lent a.lent.now) (search rules) _ c.sweep_row-swept.ensures.2

pub overflow_add-result : goal.overflow_add-result
overflow_add-result c =
    let a = c.args in
    let next = row_next a.self a.row.now (buffers_lent a.lent.now) (search rules) in
    omega (arith, next)

pub returns : goal.returns
returns c =
    let a = c.args in
    let s = c.sweep_row-swept.ensures in
    let h = c.hand_on.ensures in
    let t = row_taken a.self a.row.now (buffers_lent a.lent.now) (search rules) _ _ _ _ _ _ _ _ s.1 s.4 c.plus.ensures s.0 s.2 s.3 h.0 h.1 in
    record { answer = t.0; row_left = t.1; left = t.2; same_references = search rules }
