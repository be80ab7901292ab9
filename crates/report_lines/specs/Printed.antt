-- The lines of a report (document 01, "What SEEK prints"), and what writing one answers and leaves in its buffer. These are definitions.
use Rattle.std.specs.Prelude.{List, [], ◌∷◌, ◌++◌, ◌≡◌, ℕ, ◌+◌, ◌*◌, length}
use Rattle.answers.specs.Answers.{status_only, if_done}
use Rattle.answers.specs.Buffers.{in_front}
use Rattle.answers.specs.Refusals.{first_of, buffer_refusal}
use Rattle.answers.specs.declared.Answer.{Answer}
use Rattle.hex_digits.specs.Hex.{digits}
use Rattle.hex_lines.specs.Lines.{line, lines}
use Rattle.report_lines.specs.declared.ReportAnswer.{ReportAnswer}

-- a line that gives a number of the answer in so many digits
pub record AnswerLine : Type 0 where
  pub digit_count : ℕ
  pub number : Answer → ℕ

abbrev pub in_digits : (digit_count : ℕ) → (number : Answer → ℕ) → AnswerLine
in_digits n v = record { digit_count = n; number = v }

-- the numbers of a report: h in four digits, C in eight, the holes in eight, and by document 02 p in four, the bound in eight
abbrev pub numbers : List AnswerLine
numbers =
    in_digits 4 (λ a. a.occurrences)
    ∷ in_digits 8 (λ a. a.comparisons)
    ∷ in_digits 8 (λ a. a.ones)
    ∷ in_digits 4 (λ a. a.period)
    ∷ in_digits 8 (λ a. a.bound)
    ∷ []

-- such lines of an answer, and how many bytes they have: the digits of each, and its end
abbrev pub number_lines : List AnswerLine → Answer → List ℕ
number_lines [] a = []
number_lines (l ∷ ls) a = line l.digit_count (l.number a) ++ number_lines ls a

abbrev pub number_bytes : List AnswerLine → ℕ
number_bytes [] = 0
number_bytes (l ∷ ls) = l.digit_count + 1 + number_bytes ls

-- the lines of the numbers, then each find in four digits, then each frame in four; and how many bytes these are
abbrev pub report_lines : Answer → (found frames : List ℕ) → List ℕ
report_lines a found frames = number_lines numbers a ++ lines 4 found ++ lines 4 frames

abbrev pub report_length : (found_len frames_len : ℕ) → ℕ
report_length h n = number_bytes numbers + 5 * h + 5 * n

-- of a job that is turned away: the single line FF followed by the refusal in two digits
unfoldable pub refused_report : (status : ℕ) → List ℕ
refused_report s = digits 2 0xFF ++ line 2 s

-- the status of writing a report: 7; needed is the report's length
unfoldable pub report_status : (report_len out_len : ℕ) → ℕ
report_status l o = first_of (buffer_refusal o l ∷ [])

-- writing a report works out none of what every answer has beside its status; it also answers the report's length
unfoldable pub report_answer : (status report_len : ℕ) → ReportAnswer
report_answer s l = record { answer = status_only s; bytes = if_done s l 0 }

-- what a call that writes a report answers and leaves, of status s: out' is the buffer out at exit
pub record ReportWrittenOf (s : ℕ) (report out out' : List ℕ) (r : ReportAnswer) : Type 0 where
  pub answer : r ≡ report_answer s (length report)
  pub out_left : out' ≡ if_done s (in_front report out) out

abbrev pub ReportWritten : (report out out' : List ℕ) (r : ReportAnswer) → Type 0
ReportWritten report out out' r = ReportWrittenOf (report_status (length report) (length out)) report out out' r
