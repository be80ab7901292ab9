-- `restore_rules::restore_rules` meets its contract: all is measured, and then the test decides.
-- Assumes nothing.
use Rattle.std.proofs.Common.{length, sym}
use Rattle.answers.proofs.Reasons.{numbered}
use Rattle.answers.proofs.Answered.{zeros}
use Rattle.restore_rules.proofs.Taken.{measured_taken, measured_refused, refused, outcome}
use Rattle.restore_rules.proofs.restore_rules.Goals as goal

pub returns-in-Err : goal.returns-in-Err
returns-in-Err c =
    let told =
    measured_refused c.args.rules.now c.args.frames.now (length c.args.text.now) c.in-Err.ensures.status (numbered _) in
    rw (← told) (refused _ _ _ _ _ (numbered _) c.from.ensures)

-- past 11 and 4 to 7
pub restore_measured-requires : goal.restore_measured-requires
restore_measured-requires c = (measured_taken _ _ _ (sym c.in-Ok.ensures.status)).room

pub returns-in-Ok-restore_measured : goal.returns-in-Ok-restore_measured
returns-in-Ok-restore_measured c =
    let told = rw c.in-Ok.ensures.table at c.in-Ok-restore_measured.ensures.status in
    let left = rw c.in-Ok.ensures.table at c.restore_measured.ensures.text in
    outcome _ _ _ _ _ _ (sym c.in-Ok.ensures.status) (zeros c.default.ensures) told left

pub returns-in-Err-restore_measured : goal.returns-in-Err-restore_measured
returns-in-Err-restore_measured c =
    let told = rw c.in-Ok.ensures.table at c.in-Err-restore_measured.ensures.status in
    let left = rw c.in-Ok.ensures.table at c.restore_measured.ensures.text in
    outcome _ _ _ _ _ _ (sym c.in-Ok.ensures.status) c.from-in-Err-restore_measured.ensures told left
