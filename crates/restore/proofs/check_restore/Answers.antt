-- `restore::check_restore` meets its contract: past 4, 5 and 6 the buffer decides, and past that
-- the test. Assumes nothing.
use Rattle.std.proofs.Common.{refl, sym, ◌∙◌}
use Rattle.std.proofs.lemmas.Result.{err_from_is_err_and}
use borrow.Author.Tests.{lt-ltb}
use Rattle.answers.proofs.Reasons.{numbered}
use Rattle.answers.proofs.Refusals.{job_refused, job_past, job_within}
use Rattle.answers.specs.Refusals.{first_of}
use Rattle.restore.proofs.Taken.{tested}
use Rattle.restore.proofs.check_restore.Goals as goal
use Rattle.restore.specs.Restore.{restore_status}

pub returns-in_err-check_job : goal.returns-in_err-check_job
unfolding restore_status
returns-in_err-check_job c =
    let p = err_from_is_err_and c.from_residual.result c.from_residual.ensures.1 in
    rw (p.1, p.2) (job_refused _ _ _ c.in_err-check_job.ensures (numbered _) _)

pub returns-then-text_len-n : goal.returns-then-text_len-n
unfolding restore_status first_of
returns-then-text_len-n c =
    rw (job_past _ _ _ c.in_ok-check_job.ensures refl, lt-ltb _ _ c.if-text_len-n.true)

-- past 4, 5 and 6 the job is within the limits
pub is_conversion-requires-clause-offset : goal.is_conversion-requires-clause-offset
is_conversion-requires-clause-offset c = (job_within _ _ _ c.in_ok-check_job.ensures refl).hold_offset

pub is_conversion-requires-clause-short_pattern : goal.is_conversion-requires-clause-short_pattern
is_conversion-requires-clause-short_pattern c = (job_within _ _ _ c.in_ok-check_job.ensures refl).pattern

-- and past 7 the status is that of the test
pub returns-then-not-is_conversion : goal.returns-then-not-is_conversion
returns-then-not-is_conversion c =
    let within = job_within _ _ _ c.in_ok-check_job.ensures refl in
    sym (tested _ _ _ _ within c.if-text_len-n.false ∙ rw (sym c.is_conversion.ensures ∙ c.if-not-is_conversion.true))

pub returns : goal.returns
returns c =
    let within = job_within _ _ _ c.in_ok-check_job.ensures refl in
    sym (tested _ _ _ _ within c.if-text_len-n.false ∙ rw (sym c.is_conversion.ensures ∙ c.if-not-is_conversion.false))
