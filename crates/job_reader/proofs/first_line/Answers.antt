-- `job_reader::first_line` meets its contract: the line is good where its five pairs and its line end
-- are, and each pair gives its field. Assumes nothing.
use Rattle.std.proofs.Common.{arith}
use mathlib.Core.Bool.{and-false}
use borrow.Author.Tests.{eq-eqb, ne_eqb}
use Rattle.hex_digits.proofs.Parse.{value_read}
use Rattle.job.specs.Job.{good_line}
use Rattle.job_reader.proofs.Reading.{first_line_pairs, first_refused, first_good, fields_read, pair_refused}
use Rattle.job_reader.proofs.first_line.Goals as goal

pub returns-in_err-edition : goal.returns-in_err-edition
returns-in_err-edition c = rw c.from_residual.ensures (pair_refused c.in_err-edition.ensures (omega arith))

pub returns-in_err-m : goal.returns-in_err-m
returns-in_err-m c = rw c.from_residual-in_err-m.ensures (pair_refused c.in_err-m.ensures (omega arith))

pub returns-in_err-hold_offset : goal.returns-in_err-hold_offset
returns-in_err-hold_offset c = rw c.from_residual-in_err-hold_offset.ensures (pair_refused c.in_err-hold_offset.ensures (omega arith))

pub returns-in_err-high : goal.returns-in_err-high
returns-in_err-high c = rw c.from_residual-in_err-high.ensures (pair_refused c.in_err-high.ensures (omega arith))

pub returns-in_err-low : goal.returns-in_err-low
returns-in_err-low c = rw c.from_residual-in_err-low.ensures (pair_refused c.in_err-low.ensures (omega arith))

-- the line end is another byte
pub returns-then-file-ne-LINE_END : goal.returns-then-file-ne-LINE_END
unfolding good_line
returns-then-file-ne-LINE_END c = first_refused (rw (ne_eqb _ _ c.if-file-ne-LINE_END.true, and-false))

pub returns : goal.returns
returns c =
    let (edition-good, edition-is) = value_read c.in_ok-edition.ensures in
    let (m-good, m-is) = value_read c.in_ok-m.ensures in
    let (q-good, q-is) = value_read c.in_ok-hold_offset.ensures in
    let (high-good, high-is) = value_read c.in_ok-high.ensures in
    let (low-good, low-is) = value_read c.in_ok-low.ensures in
    first_good
    (rw (first_line_pairs, edition-good, m-good, q-good, high-good, low-good, eq-eqb _ _ c.if-file-ne-LINE_END.false))
    (fields_read _ _ _ _ _ _ edition-is m-is q-is high-is low-is)
