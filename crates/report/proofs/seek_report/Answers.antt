-- `report::seek_report` meets its contract: the file's status decides between the refusal and the report
-- of the job that was read. Assumes nothing.
use Rattle.std.proofs.Common.{◌∙◌, arith}
use Rattle.answers.proofs.Fronts.{zeros_length}
use Rattle.report.proofs.Printed.{printed_refused, printed_done}
use Rattle.report.proofs.Read.{status_read, job_read}
use Rattle.report.proofs.seek_report.Goals as goal

pub returns-then-status-ne0 : goal.returns-then-status-ne0
returns-then-status-ne0 c =
    let e = status_read c.read_job-read.ensures (zeros_length 128) (zeros_length 16384) in
    rw (printed_refused _ (λ z. c.if-status-ne0.true (e ∙ z)), ← e) c.write_refused.ensures

pub slice_bounds-pattern-end : goal.slice_bounds-pattern-end
slice_bounds-pattern-end c =
    let j = job_read c.read_job-read.ensures (zeros_length 128) (zeros_length 16384) c.if-status-ne0.false in
    omega arith

pub slice_bounds-report_taken-end : goal.slice_bounds-report_taken-end
slice_bounds-report_taken-end c =
    let j = job_read c.read_job-read.ensures (zeros_length 128) (zeros_length 16384) c.if-status-ne0.false in
    rw j.job.pattern j.job.m

pub slice_bounds-text-end : goal.slice_bounds-text-end
slice_bounds-text-end c =
    let j = job_read c.read_job-read.ensures (zeros_length 128) (zeros_length 16384) c.if-status-ne0.false in
    omega arith

pub slice_bounds-report_taken-end-2 : goal.slice_bounds-report_taken-end-2
slice_bounds-report_taken-end-2 c =
    let j = job_read c.read_job-read.ensures (zeros_length 128) (zeros_length 16384) c.if-status-ne0.false in
    rw j.job.text j.job.n

pub report_taken-requires-clause-offset : goal.report_taken-requires-clause-offset
report_taken-requires-clause-offset c =
    let j = job_read c.read_job-read.ensures (zeros_length 128) (zeros_length 16384) c.if-status-ne0.false in
    rw j.job.pattern (omega arith)

pub returns : goal.returns
returns c =
    let j = job_read c.read_job-read.ensures (zeros_length 128) (zeros_length 16384) c.if-status-ne0.false in
    rw (printed_done _ j.file_taken, ← j.job.hold_offset, ← j.job.pattern, ← j.job.text) c.report_taken.ensures
