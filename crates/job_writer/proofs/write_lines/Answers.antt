-- `job_writer::write_lines` meets its contract: none of the lines is written at first, and each turn
-- writes one more. Assumes nothing.
use Rattle.std.proofs.Common.{arith}
use Rattle.hex_lines.proofs.Writing.{none_so_far, one_more}
use Rattle.job_writer.proofs.write_lines.Goals as goal

pub loop-byte-init : goal.loop-byte-init
loop-byte-init c = none_so_far 2 _ _ _

pub loop-byte-preserved : goal.loop-byte-preserved
loop-byte-preserved c =
    let wrote = c.write_line-next.ensures in
    one_more 2 _ _ _ (omega arith) (omega arith) (omega arith) c.loop-byte.invariant (wrote.end, rw c.from.ensures at wrote.written)
