-- `report::build::build` meets its contract.
-- Assumes nothing.
use Rattle.std.proofs.Common.{◌≡◌, refl, sym, ◌∙◌, arith, rules}
use Rattle.report.proofs.Sizes.{front_length, filled_length, sizes, emptied}
use Rattle.report.proofs.Building.{never_refused, started, row_taken, row_never_refused, finished}
use Rattle.report.proofs.build.build.Goals as goal

-- ---- a start that refuses: never
pub returns-in_err-built : goal.returns-in_err-built
returns-in_err-built c =
    let empty = emptied c.args.card.accepted c.filled-acc.ensures c.filled-corr.ensures c.filled-coarse.ensures c.requires in
    never_refused c.args.card.accepted empty c.in_err-built.ensures.answer

pub loop-i-init : goal.loop-i-init
loop-i-init c =
    let empty = emptied c.args.card.accepted c.filled-acc.ensures c.filled-corr.ensures c.filled-coarse.ensures c.requires in
    record {
      built = started c.args.card.accepted empty c.in_ok-built.ensures.answer c.start.ensures.left;
      wide = sym (front_length _ (filled_length 1024 _ c.filled-row.ensures) (sizes c.args.card.accepted).row);
      same = record { acc = refl; corr = refl; coarse = refl; table = refl };
    }

pub returns-in_err-built-2 : goal.returns-in_err-built-2
returns-in_err-built-2 c =
    row_never_refused c.args.card.accepted c.loop-i.invariant.built c.loop-i-test.true c.read_row.ensures c.in_err-built-2.ensures.answer

pub loop-i-preserved : goal.loop-i-preserved
loop-i-preserved c =
    let before = c.loop-i.invariant.same in
    let row = c.row.ensures.same_references in
    record {
      built =
          row_taken c.args.card.accepted c.loop-i.invariant.built c.loop-i-test.true c.read_row.ensures c.in_ok-built-2.ensures.answer c.row.ensures.left;
      wide = omega arith;
      same =
          record {
            acc = before.acc ∙ row.acc;
            corr = before.corr ∙ row.corr;
            coarse = before.coarse ∙ row.coarse;
            table = before.table ∙ row.table;
          };
    }

pub returns : goal.returns
returns c =
    let i : c.loop-i.i ≡ c.args.card.header.decimation.source.height = omega arith in
    let done = finished c.args.card.accepted (rw i at c.loop-i.invariant.built) in
    record { table = rw (c.finish.ensures, c.read.ensures) done.table; filled = search (rules, done.filled) }
