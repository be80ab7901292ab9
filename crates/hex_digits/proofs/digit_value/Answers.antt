-- `hex_digits::digit_value` meets its contract: each arm is a range of bytes, which says what a byte
-- in it is read as. Assumes nothing.
use Rattle.std.proofs.Common.{arith}
use Rattle.hex_digits.proofs.Digits.{below_digits, between_digits, above_digits, decimal, capital, decimal_value, capital_value}
use Rattle.hex_digits.proofs.Parse.{refused, taken}
use Rattle.hex_digits.proofs.digit_value.Goals as goal

pub returns-in-48-to-57 : goal.returns-in-48-to-57
returns-in-48-to-57 c = taken (decimal _ (omega arith) (omega arith)) (decimal_value _ (omega arith))

pub returns-in-65-to-70 : goal.returns-in-65-to-70
returns-in-65-to-70 c = taken (capital _ (omega arith) (omega arith)) (capital_value _ (omega arith))

pub returns-in_default : goal.returns-in_default
returns-in_default c = refused (below_digits _ (omega arith))

pub returns-in_default-2 : goal.returns-in_default-2
returns-in_default-2 c = refused (between_digits _ (omega arith) (omega arith))

pub returns-in_default-3 : goal.returns-in_default-3
returns-in_default-3 c = refused (above_digits _ (omega arith))
