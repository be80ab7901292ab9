-- `report_lines::write_lines` meets its contract: none of the lines is written at first, and each turn
-- writes one more. Assumes nothing.
use Rattle.std.proofs.Common.{arith}
use Rattle.hex_lines.proofs.Writing.{none_so_far, one_more}
use Rattle.report_lines.proofs.write_lines.Goals as goal

pub loop-number-init : goal.loop-number-init
loop-number-init c = none_so_far 4 _ _ _

pub loop-number-preserved : goal.loop-number-preserved
loop-number-preserved c =
    let wrote = c.write_four_digit_line-next.ensures in
    one_more 4 _ _ _ (omega arith) (omega arith) (omega arith) c.loop-number.invariant (wrote.end, wrote.written)
