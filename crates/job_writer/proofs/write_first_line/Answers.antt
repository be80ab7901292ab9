-- `job_writer::write_first_line` meets its contract: each call puts its digits after those that are
-- there. Assumes nothing.
use Rattle.answers.proofs.Partly.{put, ◌then◌}
use Rattle.hex_digits.proofs.Numbers.{length_digits}
use Rattle.hex_lines.proofs.Lines.{length_line}
use Rattle.job.specs.Job.{first_line}
use Rattle.job_writer.proofs.write_first_line.Goals as goal

pub returns-clause-written : goal.returns-clause-written
unfolding first_line
returns-clause-written c =
    let edition = put (length_digits _ _) (c.write_digits-at.ensures.end, c.write_digits-at.ensures.written) in
    let size = put (length_digits _ _) (c.write_digits-at-2.ensures.end, c.write_digits-at-2.ensures.written) in
    let hold = put (length_digits _ _) (c.write_digits-at-3.ensures.end, c.write_digits-at-3.ensures.written) in
    let rest = put (length_line _ _) (c.write_line.ensures.end, c.write_line.ensures.written) in
    (edition then size then hold then rest).buffer
