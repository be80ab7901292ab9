-- What whole calls of `explain` promise: a true explanation and no other (`AnswerTrue`), and tables as `prepare` leaves them (`AsPrepared`).
-- By the contracts, and by what an explanation means.
use mathlib.Core.List.{List, [], ◌∷◌}
use mathlib.Core.Path.{◌≡◌, refl, sym, ◌∙◌, ap}
use Prim.Native.Nat.{ℕ, zero, suc}
use native.Mathlib.Omega.{arith}
use lib.ListN.{length}
use Rattle.answers.proofs.Refusals.{done_none, none_done}
use Rattle.answers.specs.Answers.{if_done, answered}
use Rattle.answers.specs.Refusals.{pattern_refusal, text_refusal}
use Rattle.answers.specs.declared.Answer.{Answer}
use Rattle.tables.specs.Buffers.{Tables, lengths, table_refusal, tables_left}
use Rattle.tables.specs.Prepare.{prepare_status}
use Rattle.steps.specs.Text.{shown, span}
use Rattle.explain_meaning.proofs.Meaning.{one_explanation}
use Rattle.explain_answers.specs.Answer.{explained}
use Rattle.explain_meaning.specs.Promises.{OneExplanation}
use Rattle.explain_answers.specs.declared.ExplainAnswer.{ExplainAnswer}
use Rattle.explain.proofs.Taken.{ExplainFit, explain_fit}
use Rattle.explain_meaning.specs.Explanation.{explanation_in}
use Rattle.explain.specs.Explain.{position_refusal, explain_status, explain_status_of, explain_answer, ExplainOutcome}
use Rattle.explain.specs.Promises.{AnswerTrue, AsPrepared}

-- a call that answers status 0 is done
done_only : (s b : ℕ) (w t : List ℕ) {r : ExplainAnswer} → r ≡ explain_answer s b w t → r.answer.status ≡ 0 → s ≡ 0
unfolding explain_answer if_done
done_only zero b w t h e = refl
done_only (suc s) b w t h e = absurd (omega (arith, ap (λ (x : ExplainAnswer). x.answer.status) h))

module _ {b : ℕ} {w t : List ℕ} {lent left : Tables} {r : ExplainAnswer} (o : ExplainOutcome b w t lent left r) (taken : r.answer.status ≡ 0) where
  status : explain_status_of b w t lent ≡ 0
  status = done_only (explain_status_of b w t lent) b w t o.answer taken

  pub fit : ExplainFit w t b lent
  fit = explain_fit status

  -- what it answers and leaves
  pub answer : r ≡ explained (explanation_in b w t)
  unfolding explain_answer if_done
  answer = rw status at o.answer

  tables : left ≡ tables_left 0 w lent
  tables = rw status at o.tables

pub answer_true : AnswerTrue
unfolding AnswerTrue OneExplanation
answer_true b w t lent left r o taken =
    let f = fit o taken in
    let (holds, only) = one_explanation (shown t) (span w t) w f.tables.taken.some b f.inside in
    record { told = explanation_in b w t; numbers = answer o taken; holds = holds; only = only }

-- preparing is then done too
prepare_taken : (b : ℕ) (w t : List ℕ) (lent : Tables) → explain_status_of b w t lent ≡ 0 → prepare_status (length w) (lengths lent) ≡ 0
unfolding explain_status prepare_status
prepare_taken b w t lent e =
    let m = length w in
    let tables = table_refusal m (lengths lent) in
    let (pattern, later) =
    done_none (pattern_refusal m ∷ text_refusal (length t) ∷ tables ∷ position_refusal (length t) b ∷ []) (omega arith) e in
    none_done (pattern_refusal m ∷ tables ∷ []) (pattern, (later.1.0, tt))

pub as_prepared : AsPrepared
unfolding AsPrepared answered if_done
as_prepared b w t lent left prepared r a o taken h =
    let done = prepare_taken b w t lent (status o taken) in
    (ap (λ (x : Answer). x.status) (rw done at h.answer), tables o taken ∙ sym (rw done at h.tables))
