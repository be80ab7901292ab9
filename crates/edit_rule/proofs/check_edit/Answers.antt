-- `edit_rule::check_edit` meets its contract: the table and the number are tested first, and then
-- the new rule. By the laws of conditions that are tested first. Assumes nothing.
use Rattle.std.proofs.Common.{refl, sym, ◌∙◌}
use Rattle.std.proofs.lemmas.Result.{err_from_is_err_and}
use Rattle.answers.proofs.Reasons.{numbered}
use Rattle.answers.proofs.Refusals.{first_refused, first_passed}
use Rattle.rules.proofs.Tested.{named_numbered}
use Rattle.rules.specs.Rules.{named_refusals}
use Rattle.edit_rule.specs.Edit.{edit_refusals, edit_status}
use Rattle.edit_rule.proofs.check_edit.Goals as goal

pub returns-in_err-naming-clause-status : goal.returns-in_err-naming-clause-status
unfolding edit_status edit_refusals
returns-in_err-naming-clause-status c =
    let p = err_from_is_err_and c.from_residual.result c.from_residual.ensures.1 in
    rw (p.1, p.2) (first_refused _ _ c.in_err-naming.ensures.status (numbered _))

pub returns-clause-status : goal.returns-clause-status
unfolding edit_status edit_refusals
returns-clause-status c =
    let table = named_refusals c.args.rules.now c.args.number in
    c.check_rule.ensures ∙ sym (first_passed table _ (named_numbered _ _) c.in_ok-naming.ensures.status refl)
