-- Whole calls of `explain` beside a search of the same job, and beside each other, for all that
-- their contracts allow. Each is a type, and its proof is in proofs/. These are definitions.
use Rattle.std.specs.Prelude.{true, List, ◌↔◌, ◌≡◌, ℕ, length}
use Rattle.tables.specs.Buffers.{Tables}
use Rattle.steps.specs.Promises.{SameAt}
use Rattle.steps.specs.Steps.{comparisons}
use Rattle.steps.specs.Text.{shown}
use Rattle.ring.specs.Ring.{is_in}
use Rattle.convert.specs.Paired.{Call, CallTaken, AnySearch, found_by}
use Rattle.explain_answers.specs.declared.ExplainAnswer.{ExplainAnswer}
use Rattle.explain.specs.Explain.{ExplainOutcome}

-- the contract of `explain` allows a call that is taken and answers r, for the position (place) b,
-- the pattern (motif) w and the text (chain) t, whatever buffers it is lent
pub record Explains (b : ℕ) (w t : List ℕ) (r : ExplainAnswer) : Type 0 where
  pub lent : Tables
  pub left : Tables
  pub outcome : ExplainOutcome b w t lent left r
  pub taken : r.answer.status ≡ 0

-- it answers 1, listed, just where b is among the occurrences (finds) that a search of the same job
-- leaves
unfoldable pub ListedWhereFound : Type 0
ListedWhereFound =
    (b q : ℕ) (w t : List ℕ) (r : ExplainAnswer) (c : Call) → Explains b w t r → AnySearch q w t c → CallTaken c →
    (r.outcome ≡ 1) ↔ (is_in (found_by c) b ≡ true)

-- two such calls for one position and one pattern give the same answer, in texts (rings) of equal
-- length that show the same byte at every position where the first search compares
unfoldable pub ExplainedAlike : Type 0
ExplainedAlike =
    (b : ℕ) (w t u : List ℕ) (r d : ExplainAnswer) → Explains b w t r → Explains b w u d →
    length u ≡ length t → SameAt (comparisons w t) (shown t) (shown u) → d ≡ r
