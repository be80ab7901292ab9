-- `report_lines::write_lines` meets its contract: the lines of the numbers passed are written
-- (`SoFar`). Assumes nothing.
use Rattle.hex_lines.proofs.Writing.{SoFar}
use Rattle.report_lines.proofs.write_lines.Given as goal

abbrev pub invariant-loop-number : goal.invariant-loop-number
invariant-loop-number l = SoFar 4 l.at l.numbers l.initial.out l.number-index l.out l.next
