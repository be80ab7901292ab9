-- `answers::check_rule` meets its contract: at each return the tests on the way are those of the refusals, in their order.
-- Assumes nothing.
use borrow.Author.Tests.{le-leb, lt-leb, eq-eqb, ne_eqb, lt-ltb, le-ltb}
use Rattle.answers.specs.Refusals.{first_of}
use Rattle.answers.proofs.check_rule.Goals as goal
use Rattle.answers.proofs.check_rule.Goals.{then-m-eq0-via-then-m-eq0, then-m-eq0-via-else-m-eq0+then-m-gt-LONGEST_PATTERN}

pub returns-then-m-eq0 : goal.returns-then-m-eq0
unfolding first_of
returns-then-m-eq0 c =
    elim c.then-m-eq0.branch [
      | then-m-eq0-via-then-m-eq0 w ↦ simp (eq-eqb _ _ w.if-m-eq0.true)
      | then-m-eq0-via-else-m-eq0+then-m-gt-LONGEST_PATTERN w ↦ simp (ne_eqb _ _ w.if-m-eq0.false, lt-ltb _ _ w.if-m-gt-LONGEST_PATTERN.true)
    ]

pub returns-then-m-hold_offset : goal.returns-then-m-hold_offset
unfolding first_of
returns-then-m-hold_offset c =
    simp (ne_eqb _ _ c.if-m-eq0.false, le-ltb _ _ c.if-m-gt-LONGEST_PATTERN.false, le-leb _ _ c.if-m-hold_offset.true)

pub returns : goal.returns
unfolding first_of
returns c =
    simp (ne_eqb _ _ c.if-m-eq0.false, le-ltb _ _ c.if-m-gt-LONGEST_PATTERN.false, lt-leb _ _ c.if-m-hold_offset.false)
