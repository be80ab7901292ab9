-- `job_reader::read_lines` meets its contract: the bytes of the lines from the i-th on are left to be
-- written. Assumes nothing.
use Rattle.std.proofs.Common.{◌+◌, ◌*◌, ◌-◌, length}
use Rattle.answers.proofs.Partly.{PartlyWritten}
use Rattle.job.specs.Job.{bytes_in}
use Rattle.job_reader.proofs.read_lines.Given as goal

abbrev pub invariant-loop-i : goal.invariant-loop-i
invariant-loop-i l =
    let n = length l.initial.out in
    PartlyWritten 0 l.initial.out l.out (bytes_in n l.from l.file) (bytes_in (n - l.i) (l.from + 3 * l.i) l.file) l.i
