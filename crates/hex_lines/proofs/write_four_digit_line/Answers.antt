-- `hex_lines::write_four_digit_line` meets its contract: the digits of the number's two bytes are put
-- one after the other, which are the number's, and a store puts the line end after them.
-- Assumes nothing.
use Rattle.std.proofs.Common.{arith}
use Rattle.answers.proofs.Partly.{put, put_more, put_store}
use Rattle.hex_digits.proofs.Numbers.{length_digits, digits_low, digits_append}
use Rattle.hex_lines.specs.Lines.{line_end, line}
use Rattle.hex_lines.proofs.write_four_digit_line.Goals as goal

pub returns-clause-written : goal.returns-clause-written
unfolding line
returns-clause-written c =
    let high = put (length_digits _ _) (c.write_pair-middle.ensures.end, c.write_pair-middle.ensures.written) in
    let low = put (length_digits _ _) (c.write_pair-after.ensures.end, c.write_pair-after.ensures.written) in
    rw (digits_append 2 2 c.args.number, ← digits_low 2 c.args.number)
    (put_store (put_more (omega arith) high low) line_end (omega arith)).buffer
