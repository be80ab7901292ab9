-- `hex_lines::write_line` meets its contract: the digits are put, and a store puts the line end after them.
-- Assumes nothing.
use Rattle.std.proofs.Common.{arith}
use Rattle.answers.proofs.Partly.{put, put_store}
use Rattle.hex_digits.proofs.Numbers.{length_digits}
use Rattle.hex_lines.specs.Lines.{line_end, line}
use Rattle.hex_lines.proofs.write_line.Goals as goal

pub returns-clause-written : goal.returns-clause-written
unfolding line
returns-clause-written c =
    let number = put (length_digits _ _) (c.write_digits-end.ensures.end, c.write_digits-end.ensures.written) in
    (put_store number line_end (omega arith)).buffer
