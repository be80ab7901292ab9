-- What is printed for a file, by its status: the refusal, or what the job gives.
-- The two cases of the definition.
use mathlib.Core.List.{List}
use mathlib.Core.Path.{◌≡◌, sym}
use Prim.Native.Nat.{ℕ}
use Rattle.answers.proofs.Answered.{refused_only}
use Rattle.answers.specs.Answers.{if_done}
use Rattle.job.specs.Job.{file_status, q_in, pattern_in, text_in}
use Rattle.report_lines.specs.Printed.{refused_report}
use Rattle.report.specs.Report.{done_report, seek_report}

pub printed_refused : (file : List ℕ) → (file_status file ≡ 0 → ⊥) → seek_report file ≡ refused_report (file_status file)
unfolding seek_report
printed_refused file h = sym (refused_only (file_status file) _ _ h)

pub printed_done : (file : List ℕ) → file_status file ≡ 0 → seek_report file ≡ done_report (q_in file) (pattern_in file) (text_in file)
unfolding seek_report if_done
printed_done file e = rw e
