-- `restore_rules::check_measured` meets its contract: the table is tested first, then the text,
-- then the buffer. Assumes nothing.
use Rattle.std.proofs.Common.{List, [], ◌∷◌, ℕ, ◌≡◌, refl, sym, ◌∙◌, arith}
use Rattle.std.proofs.lemmas.Result.{err_from_is_err_and}
use borrow.Author.Tests.{lt-ltb, le-ltb}
use Rattle.answers.proofs.Reasons.{numbered}
use Rattle.answers.proofs.Refusals.{first_refused, first_passed}
use Rattle.answers.specs.Refusals.{first_of, text_refusal, buffer_refusal}
use Rattle.rules.proofs.Tested.{table_numbered}
use Rattle.rules.specs.Rules.{table_refusals}
use Rattle.restore_rules.proofs.check_measured.Goals as goal
use Rattle.restore_rules.specs.RestoreRules.{measured}

module _ (n l : ℕ) where
  -- past 11, 4 and 5
  past :
      (x : List ℕ) {s : ℕ} → s ≡ first_of (table_refusals x) → s ≡ 0 →
      first_of (measured x n l) ≡ first_of (text_refusal n ∷ buffer_refusal l n ∷ [])
  unfolding measured
  past x told none = first_passed (table_refusals x) _ (table_numbered x) told none

  -- and past 6
  past_text :
      {s : ℕ} → s ≡ first_of (text_refusal n ∷ []) → s ≡ 0 →
      first_of (text_refusal n ∷ buffer_refusal l n ∷ []) ≡ first_of (buffer_refusal l n ∷ [])
  past_text told none = first_passed (text_refusal n ∷ []) _ (omega arith) told none

pub returns-in_err-table-clause-status : goal.returns-in_err-table-clause-status
unfolding measured
returns-in_err-table-clause-status c =
    let p = err_from_is_err_and c.from_residual.result c.from_residual.ensures.1 in
    rw (p.1, p.2) (first_refused (table_refusals _) _ c.in_err-table.ensures.status (numbered _))

pub returns-in_err-check_text-clause-status : goal.returns-in_err-check_text-clause-status
returns-in_err-check_text-clause-status c =
    let told = c.from_residual-in_err-check_text in
    let p = err_from_is_err_and told.result told.ensures.1 in
    rw (p.1, p.2)
    (first_refused (text_refusal c.args.n ∷ []) _ c.in_err-check_text.ensures (numbered _)
    ∙ sym (past _ _ _ c.in_ok-table.ensures.status refl))

pub returns-then-text_len-n-clause-status : goal.returns-then-text_len-n-clause-status
unfolding first_of
returns-then-text_len-n-clause-status c =
    let table = past c.args.n c.args.text_len c.args.rules.now c.in_ok-table.ensures.status refl in
    let text = past_text c.args.n c.args.text_len c.in_ok-check_text.ensures refl in
    sym (table ∙ text ∙ rw (lt-ltb _ _ c.if-text_len-n.true))

pub returns-clause-status : goal.returns-clause-status
unfolding first_of
returns-clause-status c =
    let table = past c.args.n c.args.text_len c.args.rules.now c.in_ok-table.ensures.status refl in
    let text = past_text c.args.n c.args.text_len c.in_ok-check_text.ensures refl in
    sym (table ∙ text ∙ rw (le-ltb _ _ c.if-text_len-n.false))
