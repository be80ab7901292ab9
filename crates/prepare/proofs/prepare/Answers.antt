-- `prepare::prepare` meets its contract: where its status is 0 the tables are written, and else
-- nothing is. By the laws of what preparing answers and leaves. Assumes nothing.
use Rattle.std.proofs.Common.{sym}
use Rattle.answers.proofs.Reasons.{numbered}
use Rattle.prepare.proofs.Prepared.{status_is, prepare_fit, refused, done}
use Rattle.prepare.proofs.prepare.Goals as goal

pub returns-in-Err : goal.returns-in-Err
returns-in-Err c = rw (c.from.ensures, ← status_is _ c.in-Err.ensures c.lengths-lengths.ensures) (refused _ (numbered _))

pub write_tables-period-requires : goal.write_tables-period-requires
write_tables-period-requires c = prepare_fit (sym (status_is _ c.in_default.ensures c.lengths-lengths.ensures))

pub returns : goal.returns
returns c =
    let written = c.write_tables-period.ensures in
    rw (c.prepared.ensures, ← status_is _ c.in_default.ensures c.lengths-lengths.ensures) (done (written.period, written.written))
