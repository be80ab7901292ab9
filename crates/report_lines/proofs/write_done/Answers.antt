-- `report_lines::write_done` meets its contract: past the test the lines of the numbers, occurrences and
-- frames are put one after another. Assumes nothing.
use Rattle.std.proofs.Common.{rules, arith}
use Rattle.answers.proofs.Partly.{put, ◌then◌}
use Rattle.hex_lines.proofs.Lines.{length_lines}
use Rattle.report_lines.proofs.Lines.{length_number_lines, length_report_lines}
use Rattle.report_lines.proofs.Outcome.{too_short, written}
use Rattle.report_lines.specs.Printed.{numbers}
use Rattle.report_lines.proofs.write_done.Goals as goal

pub returns-then-out-found : goal.returns-then-out-found
returns-then-out-found c =
    too_short _ _ (length_report_lines c.args.converted c.args.found.now c.args.frames.now) (omega arith) c.from.ensures

pub returns : goal.returns
returns c =
    let answer = put (length_number_lines numbers c.args.converted) (c.write_numbers-at.ensures.end, c.write_numbers-at.ensures.written) in
    let found = put (length_lines _ _) (c.write_lines-at.ensures.end, c.write_lines-at.ensures.written) in
    let frames = put (length_lines _ _) (c.write_lines-bytes.ensures.end, c.write_lines-bytes.ensures.written) in
    written (answer then found then frames) (omega arith) (search rules)
