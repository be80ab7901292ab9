-- `answers::check_job` meets its contract: 4 and 5 are tested first, and past them 6.
-- Assumes nothing.
use Rattle.std.proofs.Common.{refl, sym, ◌∙◌, arith}
use Rattle.std.proofs.lemmas.Result.{err_from_is_err_and}
use Rattle.answers.proofs.Reasons.{numbered}
use Rattle.answers.proofs.Refusals.{first_refused, first_passed}
use Rattle.answers.specs.Refusals.{rule_refusals, job_refusals}
use Rattle.answers.proofs.check_job.Goals as goal

pub returns-in_err-check_rule : goal.returns-in_err-check_rule
unfolding job_refusals
returns-in_err-check_rule c =
    let p = err_from_is_err_and c.from_residual.result c.from_residual.ensures.1 in
    rw (p.1, p.2) (first_refused _ _ c.in_err-check_rule.ensures (numbered _))

pub returns : goal.returns
unfolding job_refusals
returns c =
    let past = first_passed (rule_refusals c.args.m c.args.hold_offset) _ (omega arith) c.in_ok-check_rule.ensures refl in
    c.check_text.ensures ∙ sym past
