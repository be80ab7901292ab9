-- `hex_digits::digit_of` meets its contract: the test is the definition's.
-- Assumes nothing.
use borrow.Author.Tests.{lt-ltb, le-ltb}
use Rattle.hex_digits.specs.Hex.{digit}
use Rattle.hex_digits.proofs.digit_of.Goals as goal

pub returns-then-place-lt10 : goal.returns-then-place-lt10
unfolding digit
returns-then-place-lt10 c = simp (lt-ltb _ _ c.if-place-lt10.true)

pub returns-else-place-lt10 : goal.returns-else-place-lt10
unfolding digit
returns-else-place-lt10 c = simp (le-ltb _ _ c.if-place-lt10.false)
