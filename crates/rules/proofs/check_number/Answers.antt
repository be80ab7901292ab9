-- `rules::check_number` meets its contract: at each return the tests on the way are those of the
-- refusals, in their order. Assumes nothing.
use borrow.Author.Tests.{eq-eqb, ne_eqb, lt-ltb, le-ltb}
use Rattle.answers.specs.Refusals.{first_of}
use Rattle.rules.proofs.check_number.Goals as goal
use Rattle.rules.proofs.check_number.Goals.{then-count-eq0-via-then-count-eq0, then-count-eq0-via-else-count-eq0+then-count-gt-MOST_RULES}
use Rattle.rules.proofs.check_number.Goals.{then-number-eq0-via-then-number-eq0, then-number-eq0-via-else-number-eq0+then-count-number}

pub returns-then-count-eq0 : goal.returns-then-count-eq0
unfolding first_of
returns-then-count-eq0 c =
    elim c.then-count-eq0.branch [
      | then-count-eq0-via-then-count-eq0 w ↦ simp (eq-eqb _ _ w.if-count-eq0.true)
      | then-count-eq0-via-else-count-eq0+then-count-gt-MOST_RULES w ↦ simp (ne_eqb _ _ w.if-count-eq0.false, lt-ltb _ _ w.if-count-gt-MOST_RULES.true)
    ]

pub returns-then-number-eq0 : goal.returns-then-number-eq0
unfolding first_of
returns-then-number-eq0 c =
    elim c.then-number-eq0.branch [
      | then-number-eq0-via-then-number-eq0 w ↦ simp (ne_eqb _ _ c.if-count-eq0.false, le-ltb _ _ c.if-count-gt-MOST_RULES.false, eq-eqb _ _ w.if-number-eq0.true)
      | then-number-eq0-via-else-number-eq0+then-count-number w ↦ simp (ne_eqb _ _ c.if-count-eq0.false, le-ltb _ _ c.if-count-gt-MOST_RULES.false, ne_eqb _ _ w.if-number-eq0.false, lt-ltb _ _ w.if-count-number.true)
    ]

pub returns : goal.returns
unfolding first_of
returns c =
    simp (ne_eqb _ _ c.if-count-eq0.false, le-ltb _ _ c.if-count-gt-MOST_RULES.false, ne_eqb _ _ c.if-number-eq0.false, le-ltb _ _ c.if-count-number.false)
