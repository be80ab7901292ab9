-- `roles_calls::restore_as` meets its contract: where the role is refused, so is the call, and else
-- it is `restore_rules`. By the status behind a role. Assumes nothing.
use Rattle.std.proofs.Common.{refl}
use Rattle.answers.proofs.Reasons.{numbered}
use Rattle.restore_rules.proofs.Taken.{refused}
use Rattle.roles.proofs.Behind.{passed, stopped}
use Rattle.roles.specs.declared.Job.TheVariants.{Restore}
use Rattle.roles_calls.proofs.restore_as.Goals as goal

pub returns-in-Err : goal.returns-in-Err
returns-in-Err c =
    rw (c.from.ensures, ← stopped _ Restore _ c.in-Err.ensures (numbered _))
    (refused _ _ _ _ _ (numbered _) refl)

pub returns : goal.returns
returns c = rw (passed _ Restore _ c.in_default.ensures refl) c.restore_rules.ensures
