-- `rules::check_slots` meets its contract. The loop's invariant: none of the rules before slot i
-- is refused. Assumes nothing.
use Rattle.std.proofs.Common.{refl, arith, add-one}
use Rattle.std.proofs.lemmas.Result.{err_from_is_err_and}
use Rattle.answers.proofs.Reasons.{numbered}
use Rattle.rules.proofs.Tested.{slot_refused, slot_passed, all_passed}
use Rattle.rules.proofs.check_slots.Goals as goal

pub returns-in_err-check_rule : goal.returns-in_err-check_rule
returns-in_err-check_rule c =
    let p = err_from_is_err_and c.from_residual.result c.from_residual.ensures.1 in
    let tested = rw (c.length_of.ensures, c.hold_offset_of.ensures) at c.in_err-check_rule.ensures in
    rw (p.1, p.2) (slot_refused _ _ c.loop-i.invariant (omega arith) tested (numbered _))

pub loop-i-preserved : goal.loop-i-preserved
loop-i-preserved c =
    let tested = rw (c.length_of.ensures, c.hold_offset_of.ensures) at c.in_ok-check_rule.ensures in
    rw add-one (slot_passed _ _ c.loop-i.invariant (omega arith) tested refl)

pub returns : goal.returns
returns c = all_passed _ _ c.loop-i.invariant (omega arith)
