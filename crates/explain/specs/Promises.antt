-- What is promised of explaining (document 02, "Why this scallop has no hold"), of whole calls, for all that their contracts allow. Each is a type, and
-- its proof is in proofs/. These are definitions.
use Rattle.std.specs.Prelude.{List, ◌≡◌, ℕ}
use Rattle.answers.specs.declared.Answer.{Answer}
use Rattle.tables.specs.Buffers.{Tables}
use Rattle.tables.specs.Prepare.{PrepareOutcome}
use Rattle.steps.specs.Text.{shown, span}
use Rattle.explain_answers.specs.Answer.{explained}
use Rattle.explain_meaning.specs.Promises.{TrueOf}
use Rattle.explain_answers.specs.declared.ExplainAnswer.{ExplainAnswer}
use Rattle.explain_answers.specs.declared.Explanation.{Explanation}
use Rattle.explain.specs.Explain.{ExplainOutcome}

-- a call that is taken answers the numbers of an explanation that is true of its position, and no other explanation is
pub record ToldTruly (b : ℕ) (w t : List ℕ) (r : ExplainAnswer) : Type 0 where
  pub told : Explanation
  pub numbers : r ≡ explained told
  pub holds : TrueOf (shown t) (span w t) w b told
  pub only : (e : Explanation) → TrueOf (shown t) (span w t) w b e → e ≡ told

unfoldable pub AnswerTrue : Type 0
AnswerTrue =
    (b : ℕ) (w t : List ℕ) (lent left : Tables) (r : ExplainAnswer)
    → ExplainOutcome b w t lent left r → r.answer.status ≡ 0 → ToldTruly b w t r

-- a call that is taken leaves the tables as `prepare` with the same buffers, which is then done too
unfoldable pub AsPrepared : Type 0
AsPrepared =
    (b : ℕ) (w t : List ℕ) (lent left prepared : Tables) (r : ExplainAnswer) (a : Answer)
    → ExplainOutcome b w t lent left r → r.answer.status ≡ 0 → PrepareOutcome w lent prepared a
    → (a.status ≡ 0) × (left ≡ prepared)
