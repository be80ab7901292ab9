-- `roles_calls::explain_as` meets its contract: where the role is refused, so is the call, and else
-- it is `explain_rule`. By the status behind a role. Assumes nothing.
use Rattle.std.proofs.Common.{refl}
use Rattle.answers.proofs.Reasons.{numbered}
use Rattle.explain.proofs.Taken.{refused_outcome}
use Rattle.roles.proofs.Behind.{passed, stopped}
use Rattle.roles.specs.declared.Job.TheVariants.{Explain}
use Rattle.roles_calls.proofs.explain_as.Goals as goal

pub returns-in-Err : goal.returns-in-Err
returns-in-Err c =
    rw (c.from.ensures, ← stopped _ Explain _ c.in-Err.ensures (numbered _))
    (refused_outcome _ (numbered _))

pub returns : goal.returns
returns c = rw (passed _ Explain _ c.in_default.ensures refl) c.explain_rule.ensures
