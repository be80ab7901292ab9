-- `report_lines::write_refused` meets its contract: two digits, and the line of the status after them.
-- Assumes nothing.
use Rattle.std.proofs.Common.{rules, arith}
use Rattle.answers.proofs.Partly.{put, ◌then◌}
use Rattle.hex_digits.proofs.Numbers.{length_digits}
use Rattle.hex_lines.proofs.Lines.{length_line}
use Rattle.report_lines.proofs.Lines.{length_refused}
use Rattle.report_lines.proofs.Outcome.{too_short, written}
use Rattle.report_lines.specs.Printed.{refused_report}
use Rattle.report_lines.proofs.write_refused.Goals as goal

pub returns-then-out-lt-REFUSED_LEN : goal.returns-then-out-lt-REFUSED_LEN
returns-then-out-lt-REFUSED_LEN c = too_short _ _ (length_refused _) (omega arith) c.from.ensures

pub returns : goal.returns
unfolding refused_report
returns c =
    let first = put (length_digits _ _) (c.write_digits-at.ensures.end, c.write_digits-at.ensures.written) in
    let rest = put (length_line _ _) (c.write_line-bytes.ensures.end, c.write_line-bytes.ensures.written) in
    written (first then rest) (omega arith) (search rules)
