-- `turn::check_turn` meets its contract: past 8, and past 4, 5 and 6, the buffers decide.
-- Assumes nothing.
use Rattle.std.proofs.Common.{refl}
use Rattle.std.proofs.lemmas.Result.{err_from_is_err_and}
use borrow.Author.Tests.{lt-ltb, le-ltb}
use Rattle.answers.proofs.Reasons.{numbered}
use Rattle.answers.proofs.Refusals.{job_refused, job_past, either}
use Rattle.answers.specs.Refusals.{first_of}
use Rattle.turn.proofs.Taken.{way_known}
use Rattle.turn.specs.Turn.{turn_status}
use Rattle.turn.proofs.check_turn.Goals as goal

pub returns-in_err-way-clause-status : goal.returns-in_err-way-clause-status
unfolding turn_status first_of
returns-in_err-way-clause-status c =
    let p = err_from_is_err_and c.from_residual.result c.from_residual.ensures.1 in
    let (above, eight) = c.in_err-way.ensures in
    rw (p.1, p.2, lt-ltb _ _ above) eight

pub returns-in_err-check_job-clause-status : goal.returns-in_err-check_job-clause-status
unfolding turn_status first_of
returns-in_err-check_job-clause-status c =
    let r = c.from_residual-in_err-check_job in
    let p = err_from_is_err_and r.result r.ensures.1 in
    rw (p.1, p.2, le-ltb _ _ (way_known _ c.in_ok-way.ensures))
    (job_refused _ _ _ c.in_err-check_job.ensures (numbered _) _)

pub returns-then-turned_pattern_len-m-clause-status : goal.returns-then-turned_pattern_len-m-clause-status
unfolding turn_status first_of
returns-then-turned_pattern_len-m-clause-status c =
    rw (
      le-ltb _ _ (way_known _ c.in_ok-way.ensures),
      job_past _ _ _ c.in_ok-check_job.ensures refl,
      either,
      c.if-turned_pattern_len-m.true,
    )
    refl

pub returns-clause-status : goal.returns-clause-status
unfolding turn_status first_of
returns-clause-status c =
    rw (
      le-ltb _ _ (way_known _ c.in_ok-way.ensures),
      job_past _ _ _ c.in_ok-check_job.ensures refl,
      either,
      c.if-turned_pattern_len-m.false,
    )
    refl
