-- What is promised of the report: each is a type, and its proof is in proofs/. These are definitions.
use Rattle.std.specs.Prelude.{List, ◌≡◌, ℕ, ◌+◌, ◌≤◌, ◌<◌, length, take}
use Rattle.answers.specs.Refusals.{longest_pattern, longest_text}
use Rattle.job.specs.Job.{file_length}
use Rattle.report_lines.specs.Printed.{report_length}
use Rattle.report.specs.Report.{seek_report}

-- the longest job file: 49,547 bytes
abbrev pub longest_file : ℕ
longest_file = file_length longest_pattern longest_text

-- a file that is longer than the longest is refused (turned away) by the same number however many of its bytes past those are read:
-- its first n bytes print what the whole prints, where n is above the longest length
unfoldable pub CutRight : Type 0
CutRight = (n : ℕ) (file : List ℕ) → longest_file < n → seek_report (take n file) ≡ seek_report file

-- as many bytes of a file as SEEK has room for: one more than the longest job has
abbrev pub input_room : ℕ
input_room = longest_file + 1

-- what those print is what the whole of standard input prints
unfoldable pub InputRight : Type 0
InputRight = (file : List ℕ) → seek_report (take input_room file) ≡ seek_report file

-- so many bytes of a buffer are what was read from a file: all of it, or as many as the buffer has entries
abbrev pub ReadFrom : (buffer : List ℕ) → (bytes : ℕ) → (file : List ℕ) → Type 0
ReadFrom buffer bytes file = take bytes buffer ≡ take (length buffer) file

-- the longest report: 163,877 bytes, of the numbers and a line for each of 16,384 occurrences (finds) and as many frames
abbrev pub longest_report : ℕ
longest_report = report_length longest_text longest_text

-- no file prints more
unfoldable pub ReportFits : Type 0
ReportFits = (file : List ℕ) → length (seek_report file) ≤ longest_report
