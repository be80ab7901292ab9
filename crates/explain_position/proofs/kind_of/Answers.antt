-- `explain_position::kind_of` meets its contract: its tests are those of the definition, in their
-- order. Assumes nothing.
use borrow.Author.Tests.{eq-eqb, ne_eqb}
use Rattle.explain_meaning.specs.Explanation.{kind_by}
use Rattle.explain_position.proofs.kind_of.Goals as goal

pub returns-then-agreed-count : goal.returns-then-agreed-count
unfolding kind_by
returns-then-agreed-count c = rw (eq-eqb _ _ c.if-agreed-count.true)

pub returns-then-repeat : goal.returns-then-repeat
unfolding kind_by
returns-then-repeat c = rw (ne_eqb _ _ c.if-agreed-count.false, c.if-repeat.true)

pub returns-then-agreed-eq0 : goal.returns-then-agreed-eq0
unfolding kind_by
returns-then-agreed-eq0 c = rw (ne_eqb _ _ c.if-agreed-count.false, c.if-repeat.false, eq-eqb _ _ c.if-agreed-eq0.true)

pub returns : goal.returns
unfolding kind_by
returns c = rw (ne_eqb _ _ c.if-agreed-count.false, c.if-repeat.false, ne_eqb _ _ c.if-agreed-eq0.false)
