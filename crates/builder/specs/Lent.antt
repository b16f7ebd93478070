-- What a call is lent, as the buffers of document 01: to be written, or to be read.
use Rattle.std.specs.Prelude.{◌≡◌, List, Float}
use Rattle.std.specs.Borrow.{MutBor, Bor}
use Rattle.builder.specs.declared.Lent.{Lent}
use Rattle.builder.specs.Build.{Buffers, buffers}

-- document 01, 'Builder': the buffers that a start and a row write
abbrev pub buffers_lent : Lent (MutBor (List Float)) → Buffers
buffers_lent lent = buffers lent.acc.now lent.corr.now lent.coarse.now lent.table.now

-- the same buffers, as a finish reads them
abbrev pub buffers_shown : Lent (Bor (List Float)) → Buffers
buffers_shown lent = buffers lent.acc.now lent.corr.now lent.coarse.now lent.table.now

-- the references are the caller's still, so that what is written through them is seen there
pub record SameReferences (before after : Lent (MutBor (List Float))) : Type 0 where
  pub acc : before.acc.ghost_name ≡ after.acc.ghost_name
  pub corr : before.corr.ghost_name ≡ after.corr.ghost_name
  pub coarse : before.coarse.ghost_name ≡ after.coarse.ghost_name
  pub table : before.table.ghost_name ≡ after.table.ghost_name
