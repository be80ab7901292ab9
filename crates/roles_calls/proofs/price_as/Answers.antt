-- `roles_calls::price_as` meets its contract: where the role is refused, so is the call, and else
-- it is `price_rules`. By the status behind a role. Assumes nothing.
use Rattle.std.proofs.Common.{refl}
use Rattle.answers.proofs.Reasons.{numbered}
use Rattle.price_rules.proofs.Priced.{refused}
use Rattle.roles.proofs.Behind.{passed, stopped}
use Rattle.roles.specs.declared.Job.TheVariants.{Price}
use Rattle.roles_calls.proofs.price_as.Goals as goal

pub returns-in-Err : goal.returns-in-Err
returns-in-Err c =
    rw (c.from.ensures, ← stopped _ Price _ c.in-Err.ensures (numbered _))
    (refused _ (numbered _))

pub returns : goal.returns
returns c = rw (passed _ Price _ c.in_default.ensures refl) c.price_rules.ensures
