-- `builder::hand_on::emit` meets its contract.
-- Assumes nothing.
use Prim.Native.Nat.{◌/◌, ◌<◌}
use native.Mathlib.Omega.{arith}
use lib.ListN.{length}
use Rattle.builder.proofs.Laid.{part_fits, run_length}
use Rattle.builder.proofs.hand_on.emit.Goals as goal

pub store-requires : goal.store-requires
store-requires c =
    let src = c.args.src.now in
    let inside : c.loop-k.k < length src / 8 = omega (arith, c.as_chunks.ensures.front_len) in
    rw (c.as_chunks.ensures.front, run_length src c.loop-k.k inside, c.loop-k.auto.dst)
    (omega (arith, part_fits c.loop-k.k 8 (length src) (length c.args.dst.now) (omega arith) (omega arith) (omega arith) c.requires))

pub store-requires-then-not-is_empty : goal.store-requires-then-not-is_empty
store-requires-then-not-is_empty c =
    let src = c.args.src.now in
    let e = c.as_chunks.ensures in
    rw (c.loop-k.auto.dst)
    (part_fits (length c.as_chunks.result.0.now) (length c.as_chunks.result.1.now) (length src) (length c.args.dst.now)
    (grind arith) (omega (arith, e.back_len)) (omega (arith, e.front_len, e.back_len)) c.requires)
