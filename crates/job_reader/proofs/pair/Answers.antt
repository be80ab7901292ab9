-- `job_reader::pair` meets its contract: each digit is a value or refused, and the two together are
-- the pair. Assumes nothing.
use Rattle.std.proofs.Common.{arith}
use mathlib.Core.Bool.{and-false}
use Rattle.hex_digits.proofs.Parse.{refused, taken, refused_bad, value_read, digit_below}
use Rattle.job_reader.proofs.pair.Goals as goal

pub returns-in_err-sixteens : goal.returns-in_err-sixteens
returns-in_err-sixteens c = rw c.from_residual.ensures (refused (rw (refused_bad c.in_err-sixteens.ensures)))

pub returns-in_err-units : goal.returns-in_err-units
returns-in_err-units c = rw c.from_residual-in_err-units.ensures (refused (rw (refused_bad c.in_err-units.ensures, and-false)))

pub overflow_mul-result : goal.overflow_mul-result
overflow_mul-result c = omega (arith, digit_below _ c.in_ok-sixteens.ensures)

pub overflow_add-result : goal.overflow_add-result
overflow_add-result c = omega (arith, digit_below _ c.in_ok-sixteens.ensures, digit_below _ c.in_ok-units.ensures)

pub returns : goal.returns
returns c =
    let (high-good, high-is) = value_read c.in_ok-sixteens.ensures in
    let (low-good, low-is) = value_read c.in_ok-units.ensures in
    taken (rw (high-good, low-good)) (omega arith)
