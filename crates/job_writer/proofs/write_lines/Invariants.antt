-- `job_writer::write_lines` meets its contract: the lines of the bytes passed are written (`SoFar`).
-- Assumes nothing.
use Rattle.hex_lines.proofs.Writing.{SoFar}
use Rattle.job_writer.proofs.write_lines.Given as goal

abbrev pub invariant-loop-byte : goal.invariant-loop-byte
invariant-loop-byte l = SoFar 2 l.at l.bytes l.initial.out l.byte-index l.out l.next
