-- `tables::check` meets its contract: past 4, 5 and 6 the buffers decide.
-- Assumes nothing.
use Rattle.std.proofs.Common.{refl}
use Rattle.std.proofs.lemmas.Result.{err_from_is_err_and}
use Rattle.answers.proofs.Reasons.{numbered}
use Rattle.answers.proofs.Refusals.{job_refused, job_within, job_past, either}
use Rattle.answers.specs.Refusals.{first_of}
use Rattle.tables.proofs.check.Goals as goal
use Rattle.tables.specs.Buffers.{measured_status}

pub returns-in_err-check_job : goal.returns-in_err-check_job
unfolding measured_status
returns-in_err-check_job c =
    let p = err_from_is_err_and c.from_residual.result c.from_residual.ensures.1 in
    rw (p.1, p.2) (job_refused _ _ _ c.in_err-check_job.ensures (numbered _) _)

pub needed-requires : goal.needed-requires
needed-requires c = (job_within _ _ _ c.in_ok-check_job.ensures refl).pattern

pub returns-then-short_of-short : goal.returns-then-short_of-short
unfolding measured_status first_of
returns-then-short_of-short c =
    let told = rw c.needed.ensures at c.short_of.ensures in
    rw (job_past _ _ _ c.in_ok-check_job.ensures refl, either, ← told, c.if-short_of-short.true)

pub returns : goal.returns
unfolding measured_status first_of
returns c =
    let told = rw c.needed.ensures at c.short_of.ensures in
    rw (job_past _ _ _ c.in_ok-check_job.ensures refl, either, ← told, c.if-short_of-short.false)
