-- What explaining a position answers and leaves in its buffers (document 02, "Why this scallop has no hold"). These are definitions.
use Rattle.std.specs.Prelude.{List, [], ◌∷◌, ◌≡◌, ℕ, leb, length}
use Rattle.answers.specs.Answers.{if_done}
use Rattle.answers.specs.Refusals.{Refusal, refuse, first_of, pattern_refusal, text_refusal}
use Rattle.tables.specs.Buffers.{Tables, lengths, table_refusal, tables_left}
use Rattle.tables.specs.declared.TableLengths.{TableLengths}
use Rattle.explain_answers.specs.Answer.{explained, refused}
use Rattle.explain_meaning.specs.Explanation.{explanation_in}
use Rattle.explain_answers.specs.declared.ExplainAnswer.{ExplainAnswer}

-- 10: b of n or more
abbrev pub position_refusal : (n b : ℕ) → Refusal
position_refusal n b = refuse 10 (leb n b)

-- the status of explaining: 4, 6, 7, 10
unfoldable pub explain_status : (m n b : ℕ) → TableLengths → ℕ
explain_status m n b l = first_of (pattern_refusal m ∷ text_refusal n ∷ table_refusal m l ∷ position_refusal n b ∷ [])

-- what `explain` answers
unfoldable pub explain_answer : (status b : ℕ) → (w t : List ℕ) → ExplainAnswer
explain_answer s b w t = if_done s (explained (explanation_in b w t)) (refused s)

-- what `explain` answers and leaves, of status s: lent and left are the tables' buffers at entry and at exit; the tables are left as `prepare`
-- leaves them
pub record ExplainOutcomeOf (s b : ℕ) (w t : List ℕ) (lent left : Tables) (r : ExplainAnswer) : Type 0 where
  pub answer : r ≡ explain_answer s b w t
  pub tables : left ≡ tables_left s w lent

-- the status of explaining b with these buffers
abbrev pub explain_status_of : (b : ℕ) (w t : List ℕ) (lent : Tables) → ℕ
explain_status_of b w t lent = explain_status (length w) (length t) b (lengths lent)

-- what `explain` answers and leaves, of the status that its conditions give
abbrev pub ExplainOutcome : (b : ℕ) (w t : List ℕ) (lent left : Tables) (r : ExplainAnswer) → Type 0
ExplainOutcome b w t lent left r = ExplainOutcomeOf (explain_status_of b w t lent) b w t lent left r
