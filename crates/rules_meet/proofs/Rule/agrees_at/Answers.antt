-- `rules_meet::Rule::agrees_at` meets its contract: its tests are those of the definition.
-- Assumes nothing.
use Rattle.std.proofs.Common.{sym, ◌∙◌}
use borrow.Author.Tests.{le-leb}
use Rattle.rules_meet.proofs.Meeting.{agree_before, agree_after, agree_inside}
use Rattle.rules_meet.proofs.Rule.agrees_at.Goals as goal

pub returns-then-self-j : goal.returns-then-self-j
returns-then-self-j c = rw (← c.self.view_is, ← c.other.view_is) (sym (agree_before _ _ _ c.if-self-j.true))

pub returns-then-other-y : goal.returns-then-other-y
returns-then-other-y c =
    rw (← c.self.view_is, ← c.other.view_is)
    (le-leb _ _ c.if-other-y.true ∙ sym (agree_after _ _ _ c.if-self-j.false c.if-other-y.true))

pub returns-else-other-y : goal.returns-else-other-y
returns-else-other-y c =
    rw (← c.self.view_is, ← c.other.view_is) (sym (agree_inside _ _ _ c.if-self-j.false c.if-other-y.false))
