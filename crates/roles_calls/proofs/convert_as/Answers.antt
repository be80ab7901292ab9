-- `roles_calls::convert_as` meets its contract: where the role is refused, so is the call, and else
-- it is `convert_rules`. By the status behind a role. Assumes nothing.
use Rattle.std.proofs.Common.{refl}
use Rattle.answers.proofs.Reasons.{numbered}
use Rattle.convert_rules.proofs.Converted.{refused}
use Rattle.roles.proofs.Behind.{passed, stopped}
use Rattle.roles.specs.declared.Job.TheVariants.{Convert}
use Rattle.roles_calls.proofs.convert_as.Goals as goal

pub returns-in-Err : goal.returns-in-Err
returns-in-Err c =
    rw (c.from.ensures, ← stopped _ Convert _ c.in-Err.ensures (numbered _))
    (refused _ (numbered _))

pub returns : goal.returns
returns c = rw (passed _ Convert _ c.in_default.ensures refl) c.convert_rules.ensures
