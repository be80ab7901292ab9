-- How long a report is: the lines of a list of numbers, those of the occurrences and frames, or the one line of a refusal.
-- By induction on the list, and the lengths of the parts put together.
use mathlib.Core.List.{List, [], ◌∷◌}
use mathlib.Core.Path.{◌≡◌, refl}
use Prim.Native.Nat.{ℕ}
use lib.ListN.{length, length-append}
use Rattle.answers.specs.declared.Answer.{Answer}
use Rattle.hex_digits.proofs.Numbers.{length_digits}
use Rattle.hex_lines.proofs.Lines.{length_line, length_lines}
use Rattle.report_lines.specs.Printed.{AnswerLine, numbers, number_lines, number_bytes, report_lines, report_length, refused_report}

pub length_number_lines : (ls : List AnswerLine) (a : Answer) → length (number_lines ls a) ≡ number_bytes ls
length_number_lines [] a = refl
length_number_lines (l ∷ ls) a = rw (length-append, length_line, length_number_lines ls a)

pub length_report_lines : (a : Answer) (found frames : List ℕ)
    → length (report_lines a found frames) ≡ report_length (length found) (length frames)
length_report_lines a found frames =
    rw (length-append, length-append, length_number_lines numbers a, length_lines 4 found, length_lines 4 frames)

pub length_refused : (s : ℕ) → length (refused_report s) ≡ 5
unfolding refused_report
length_refused s = rw (length-append, length_digits, length_line)
