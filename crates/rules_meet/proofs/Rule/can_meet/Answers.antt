-- `rules_meet::Rule::can_meet` meets its contract. The loop's invariant: the patterns agree
-- everywhere just where they do from j on. Assumes nothing.
use Rattle.std.proofs.Common.{◌≡◌, length, sym, ◌∙◌, ap, add-one, arith}
use Rattle.rules.specs.Rules.{Rule}
use Rattle.rules_meet.proofs.Meeting.{held_differ}
use Rattle.rules_meet.proofs.Runs.{run_fails, run_passes, run_ended}
use Rattle.rules_meet.specs.Meeting.{can_meet}
use Rattle.rules_meet.proofs.Rule.can_meet.Goals as goal

-- equal rules have patterns of one length
long : {r s : Rule} → r ≡ s → length r.pattern ≡ length s.pattern
long e = ap (λ (r : Rule). length r.pattern) e

pub returns-then-self-other : goal.returns-then-self-other
returns-then-self-other c =
    rw (← c.self.view_is, ← c.other.view_is)
    (sym (held_differ _ _ c.self.invariant.0 c.other.invariant.0 c.if-self-other.true))

pub returns-then-not-agrees_at : goal.returns-then-not-agrees_at
unfolding can_meet
returns-then-not-agrees_at c =
    sym (run_fails _ _ _ c.loop-j.invariant (omega (arith, long c.self.view_is)) (sym c.agrees_at.ensures ∙ c.if-not-agrees_at.true))

pub loop-j-preserved : goal.loop-j-preserved
loop-j-preserved c =
    rw add-one
    (run_passes _ _ _ c.loop-j.invariant (omega (arith, long c.self.view_is)) (sym c.agrees_at.ensures ∙ c.if-not-agrees_at.false))

pub returns : goal.returns
unfolding can_meet
returns c = sym (run_ended _ _ _ c.loop-j.invariant (omega (arith, long c.self.view_is)))
