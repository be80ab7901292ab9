-- `explain_rule::explain_rule` meets its contract: a table or number that is refused leaves
-- everything, and past that it is `explain`. By the status by one rule. Assumes nothing.
use Rattle.std.proofs.Common.{sym}
use Rattle.answers.proofs.Reasons.{numbered}
use Rattle.explain.proofs.Taken.{refused_outcome}
use Rattle.explain_rule.proofs.Status.{named, rule_refused, rule_explained}
use Rattle.explain_rule.proofs.explain_rule.Goals as goal

-- a table or a number is refused
pub returns-in-Err : goal.returns-in-Err
returns-in-Err c =
    rw (c.from.ensures, ← rule_refused _ _ _ _ _ c.in-Err.ensures.status (numbered _)) (refused_outcome _ (numbered _))

pub overflow_sub-number : goal.overflow_sub-number
overflow_sub-number c = (named _ _ c.in-Ok.ensures.size (sym c.in-Ok.ensures.status)).some

pub pattern-pattern-requires : goal.pattern-pattern-requires
pattern-pattern-requires c = rw c.in-Ok.ensures.table (named _ _ c.in-Ok.ensures.size (sym c.in-Ok.ensures.status)).inside

-- or it is explained by the rule's pattern
pub returns-in-Ok : goal.returns-in-Ok
returns-in-Ok c =
    let r = c.in-Ok.ensures in
    rule_explained _ _ r.size (sym r.status) (rw r.table at c.pattern-pattern.ensures.answer) c.explain.ensures
