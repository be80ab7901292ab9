-- `report_lines::write_numbers` meets its contract: the line of each number is put after those that are
-- there. Assumes nothing.
use mathlib.Core.List.{append_assoc, append-nil}
use Rattle.answers.proofs.Partly.{put, ◌then◌}
use Rattle.hex_lines.proofs.Lines.{length_line}
use Rattle.report_lines.proofs.write_numbers.Goals as goal

pub returns-clause-written : goal.returns-clause-written
returns-clause-written c =
    let occurrences = put (length_line _ _) (c.write_line-at.ensures.end, c.write_line-at.ensures.written) in
    let comparisons = put (length_line _ _) (c.write_line-at-2.ensures.end, c.write_line-at-2.ensures.written) in
    let ones = put (length_line _ _) (c.write_line-at-3.ensures.end, c.write_line-at-3.ensures.written) in
    let period = put (length_line _ _) (c.write_line-at-4.ensures.end, c.write_line-at-4.ensures.written) in
    let bound = put (length_line _ _) (c.write_line.ensures.end, c.write_line.ensures.written) in
    let all = occurrences then comparisons then ones then period then bound in
    simp append-nil (simp append_assoc at all.buffer)
