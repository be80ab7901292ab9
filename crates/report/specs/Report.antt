-- What SEEK prints, as the list of its bytes (document 01, "What SEEK prints"). These are definitions.
use Rattle.std.specs.Prelude.{List, ℕ}
use Rattle.answers.specs.Answers.{if_done}
use Rattle.job.specs.Job.{file_status, q_in, pattern_in, text_in}
use Rattle.steps.specs.Occurrences.{occurrences}
use Rattle.frames.specs.Frames.{frames}
use Rattle.convert.specs.Convert.{convert_done}
use Rattle.report_lines.specs.Printed.{report_lines, refused_report, ReportWritten}
use Rattle.report_lines.specs.declared.ReportAnswer.{ReportAnswer}

-- of a job that is taken
unfoldable pub done_report : (q : ℕ) → (w t : List ℕ) → List ℕ
done_report q w t = report_lines (convert_done w t) (occurrences w t) (frames q w t)

-- what SEEK prints for the job on standard input
unfoldable pub seek_report : (file : List ℕ) → List ℕ
seek_report file =
    let s = file_status file in
    if_done s (done_report (q_in file) (pattern_in file) (text_in file)) (refused_report s)

-- what `seek_report` answers and leaves
abbrev pub ReportOutcome : (file out out' : List ℕ) (r : ReportAnswer) → Type 0
ReportOutcome file out out' r = ReportWritten (seek_report file) out out' r
