-- `rules::RuleTable::naming` meets its contract: 11 is tested first, and then 4 and 5 of each rule.
-- A table that passes is taken. Assumes nothing.
use Rattle.std.proofs.Common.{◌≡◌, List, [], ◌∷◌, ℕ, refl, sym, ◌∙◌, arith}
use Rattle.std.proofs.lemmas.Result.{err_from_is_err_and}
use Rattle.answers.proofs.Reasons.{numbered}
use Rattle.answers.proofs.Refusals.{done_none, first_refused, first_passed}
use Rattle.answers.specs.Refusals.{Refusal, first_of}
use Rattle.rules.proofs.Tested.{rule_numbered, named_taken}
use Rattle.rules.specs.Rules.{count_of, count_refusal, number_refusal, slot_refusals, named_refusals}
use Rattle.rules.proofs.RuleTable.naming.Goals as goal

-- the refusals by 11, which are tested first
abbrev firsts : (k number : ℕ) → List Refusal
firsts k number = count_refusal k ∷ number_refusal k number ∷ []

-- past them the others decide
past : (x : List ℕ) (number : ℕ) {s : ℕ} → 0 ≡ first_of (firsts (count_of x) number) →
    s ≡ first_of (slot_refusals x (count_of x) 0) → s ≡ first_of (named_refusals x number)
unfolding named_refusals
past x number tested slots =
    slots ∙ sym (first_passed (firsts (count_of x) number) _ (omega arith) tested refl)

pub returns-in_err-check_number-clause-status : goal.returns-in_err-check_number-clause-status
unfolding named_refusals
returns-in_err-check_number-clause-status c =
    let p = err_from_is_err_and c.from_residual.result c.from_residual.ensures.1 in
    let tested = rw c.count.ensures.answer at c.in_err-check_number.ensures in
    let slots = slot_refusals c.args.rules.now (count_of c.args.rules.now) 0 in
    rw (p.1, p.2) (first_refused (firsts (count_of c.args.rules.now) c.args.number) slots tested (numbered _))

-- past 11 there are at most 16 rules
pub check_slots-requires : goal.check_slots-requires
check_slots-requires c =
    let tested = rw c.count.ensures.answer at c.in_ok-check_number.ensures in
    let none = done_none (firsts (count_of c.args.rules.now) c.args.number) (omega arith) (sym tested) in
    (rule_numbered _ c.args.number none.0 none.1.0).few

pub returns-in_err-check_slots-clause-status : goal.returns-in_err-check_slots-clause-status
returns-in_err-check_slots-clause-status c =
    let p = err_from_is_err_and c.from_residual-in_err-check_slots.result c.from_residual-in_err-check_slots.ensures.1 in
    let tested = rw c.count.ensures.answer at c.in_ok-check_number.ensures in
    rw (p.1, p.2) (past _ _ tested c.in_err-check_slots.ensures)

pub of-requires : goal.of-requires
of-requires c =
    let tested = rw c.count.ensures.answer at c.in_ok-check_number.ensures in
    (named_taken _ c.count.ensures.size c.args.number (sym (past _ _ tested c.in_ok-check_slots.ensures))).0

pub returns-clause-status : goal.returns-clause-status
returns-clause-status c =
    let tested = rw c.count.ensures.answer at c.in_ok-check_number.ensures in
    past _ _ tested c.in_ok-check_slots.ensures
