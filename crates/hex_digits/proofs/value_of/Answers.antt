-- `hex_digits::value_of` meets its contract: the test is the definition's.
-- Assumes nothing.
use Rattle.std.proofs.Common.{sym}
use Rattle.hex_digits.proofs.Digits.{decimal_value, capital_value}
use Rattle.hex_digits.proofs.value_of.Goals as goal

pub returns-then-digit-le57 : goal.returns-then-digit-le57
returns-then-digit-le57 c = sym (decimal_value _ c.if-digit-le57.true)

pub returns-else-digit-le57 : goal.returns-else-digit-le57
returns-else-digit-le57 c = sym (capital_value _ c.if-digit-le57.false)
