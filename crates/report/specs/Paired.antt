-- Demand 3 of what SEEK prints: what the reports of two jobs share whose searches make the same comparisons. These are definitions.
use Rattle.std.specs.Prelude.{List, ◌≡◌, ℕ, length}
use Rattle.answers.specs.Answers.{converted}
use Rattle.job.specs.Job.{file_status, q_in, pattern_in, text_in}
use Rattle.steps.specs.Occurrences.{occurrences}
use Rattle.steps.specs.Promises.{SameAt}
use Rattle.steps.specs.Steps.{comparisons}
use Rattle.steps.specs.Text.{shown}
use Rattle.search.specs.Search.{search_done}
use Rattle.frames.specs.Frames.{frames}
use Rattle.frames.specs.Promises.{holds_of}
use Rattle.ones.specs.Ones.{ones_of}
use Rattle.report_lines.specs.Printed.{report_lines}
use Rattle.report.specs.Report.{seek_report}

-- what a file prints. A search for w in t gives the lines of h, C, p, the bound and the occurrences
-- (finds). The file's own text gives the line of the ones (holes) and the lines of the frames. The
-- frames of its text are holds at the same positions as those of t.
pub record PrintsAs (q : ℕ) (w t file : List ℕ) : Type 0 where
  pub lines_printed :
      seek_report file ≡ report_lines (converted (search_done w t) (ones_of (text_in file))) (occurrences w t) (frames q w (text_in file))
  pub holds_printed : holds_of (frames q w (text_in file)) ≡ holds_of (frames q w t)

-- two jobs with one pattern (motif), one hold offset (hold place) and the same bytes (cards) wherever the first search compares (looks) print
-- the same lines but for ones (holes) and moves
unfoldable pub ReportsPaired : Type 0
ReportsPaired =
    (file other : List ℕ) → file_status file ≡ 0 → file_status other ≡ 0 →
    let q = q_in file in let w = pattern_in file in let t = text_in file in
    q_in other ≡ q → pattern_in other ≡ w → length (text_in other) ≡ length t →
    SameAt (comparisons w t) (shown t) (shown (text_in other)) →
    PrintsAs q w t file × PrintsAs q w t other
