-- No report is longer than the longest: a job that is taken is within the limits, and has at most as many occurrences as its text has bytes.
-- By the length of each kind of report.
use mathlib.Core.Bool.{Bool, true, false}
use mathlib.Core.List.{List}
use mathlib.Core.Path.{◌≡◌, refl}
use Prim.Native.Nat.{ℕ, ◌≤◌}
use native.Mathlib.Omega.{arith}
use borrow.Author.Tests.{eqb-true, eqb-false}
use lib.Dec.{eqb}
use lib.ListN.{length}
use Rattle.frames.proofs.Holds.{length_frames, occurrences_few}
use Rattle.frames.specs.Frames.{frames}
use Rattle.convert.specs.Convert.{convert_done}
use Rattle.job.proofs.Lengths.{length_pattern, length_text}
use Rattle.job.proofs.Taken.{file_taken}
use Rattle.job.specs.Job.{file_status, q_in, pattern_in, text_in}
use Rattle.steps.specs.Occurrences.{occurrences}
use Rattle.report_lines.proofs.Lines.{length_report_lines, length_refused}
use Rattle.report.proofs.Printed.{printed_refused, printed_done}
use Rattle.report.specs.Promises.{longest_report, ReportFits}
use Rattle.report.specs.Report.{done_report, seek_report}

done_fits : (q : ℕ) (w t : List ℕ) → 1 ≤ length w → length t ≤ 16384 → length (done_report q w t) ≤ longest_report
unfolding done_report
done_fits q w t h l =
    omega (
      arith,
      length_report_lines (convert_done w t) (occurrences w t) (frames q w t),
      occurrences_few w t h,
      length_frames q w t,
    )

pub report_fits : ReportFits
unfolding ReportFits
report_fits file = go (eqb (file_status file) 0) refl
  where
    go : (z : Bool) → eqb (file_status file) 0 ≡ z → length (seek_report file) ≤ longest_report
    go true e =
        let done = eqb-true _ _ e in
        let limits = (file_taken file done).limits in
        let w = length_pattern file in
        let t = length_text file in
        rw (printed_done file done) (done_fits (q_in file) (pattern_in file) (text_in file) (omega arith) (omega arith))
    go false e = rw (printed_refused file (eqb-false _ _ e), length_refused) (omega arith)
