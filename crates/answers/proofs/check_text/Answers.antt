-- `answers::check_text` meets its contract: it tests what the refusal tests.
-- Assumes nothing.
use borrow.Author.Tests.{le-ltb, lt-ltb}
use Rattle.answers.specs.Refusals.{first_of}
use Rattle.answers.proofs.check_text.Goals as goal

pub returns-then-n-gt-LONGEST_TEXT : goal.returns-then-n-gt-LONGEST_TEXT
unfolding first_of
returns-then-n-gt-LONGEST_TEXT c = simp (lt-ltb _ _ c.if-n-gt-LONGEST_TEXT.true)

pub returns : goal.returns
unfolding first_of
returns c = simp (le-ltb _ _ c.if-n-gt-LONGEST_TEXT.false)
