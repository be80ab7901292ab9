-- `roles_calls::edit_as` meets its contract: where the role is refused, so is the call, and else it
-- is `edit_rule`. By the status behind a role. Assumes nothing.
use Rattle.std.proofs.Common.{refl}
use Rattle.answers.proofs.Answered.{refused_only}
use Rattle.answers.proofs.Reasons.{numbered}
use Rattle.roles.proofs.Behind.{passed, stopped}
use Rattle.roles.specs.declared.Job.TheVariants.{Edit}
use Rattle.roles_calls.proofs.edit_as.Goals as goal

pub returns-in-Err : goal.returns-in-Err
returns-in-Err c =
    rw (c.from.ensures, ← stopped _ Edit _ c.in-Err.ensures (numbered _))
    (record { answer = refl; table_left = refused_only _ _ _ (numbered _) })

pub returns : goal.returns
returns c = rw (passed _ Edit _ c.in_default.ensures refl) c.edit_rule.ensures
