-- `report::build::build` meets its contract: builder and buffers are as the rows so far leave them.
-- Assumes nothing.
use Rattle.std.proofs.Common.{◌≡◌, length}
use Rattle.builder.specs.Lent.{buffers_lent, SameReferences}
use Rattle.report.proofs.Building.{BuiltRows}
use Rattle.report.proofs.build.build.Given as goal

abbrev pub invariant-loop-i : goal.invariant-loop-i
invariant-loop-i l =
    record {
      built : BuiltRows l.card.bytes.now l.card.header l.i l.built (buffers_lent l.lent);
      wide : length l.row ≡ l.card.header.decimation.source.width;
      same : SameReferences l.initial.lent l.lent;
    }
