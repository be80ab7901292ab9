-- `job_writer::check_write` meets its contract: past 4, 5 and 6 the file's length decides.
-- Assumes nothing.
use Rattle.std.proofs.Common.{refl, arith}
use Rattle.std.proofs.lemmas.Result.{err_from_is_err_and}
use borrow.Author.Tests.{lt-ltb, le-ltb}
use Rattle.answers.proofs.Reasons.{numbered}
use Rattle.answers.proofs.Refusals.{job_refused, job_within, job_past}
use Rattle.answers.specs.Refusals.{first_of}
use Rattle.job.specs.Write.{write_status}
use Rattle.job_writer.proofs.check_write.Goals as goal

pub returns-in_err-check_job-clause-status : goal.returns-in_err-check_job-clause-status
unfolding write_status
returns-in_err-check_job-clause-status c =
    let p = err_from_is_err_and c.from_residual.result c.from_residual.ensures.1 in
    rw (p.1, p.2) (job_refused _ _ _ c.in_err-check_job.ensures (numbered _) _)

pub overflow_mul-m : goal.overflow_mul-m
overflow_mul-m c = omega (arith, job_within _ _ _ c.in_ok-check_job.ensures refl)

pub overflow_add-m : goal.overflow_add-m
overflow_add-m c = omega (arith, job_within _ _ _ c.in_ok-check_job.ensures refl)

pub overflow_mul-n : goal.overflow_mul-n
overflow_mul-n c = omega (arith, job_within _ _ _ c.in_ok-check_job.ensures refl)

pub overflow_add-m-2 : goal.overflow_add-m-2
overflow_add-m-2 c = omega (arith, job_within _ _ _ c.in_ok-check_job.ensures refl)

pub returns-then-file_len-m-clause-status : goal.returns-then-file_len-m-clause-status
unfolding write_status first_of
returns-then-file_len-m-clause-status c = rw (job_past _ _ _ c.in_ok-check_job.ensures refl, lt-ltb _ _ c.if-file_len-m.true)

pub returns-clause-status : goal.returns-clause-status
unfolding write_status first_of
returns-clause-status c = rw (job_past _ _ _ c.in_ok-check_job.ensures refl, le-ltb _ _ c.if-file_len-m.false)

pub returns-clause-limits : goal.returns-clause-limits
returns-clause-limits c = job_within _ _ _ c.in_ok-check_job.ensures refl
