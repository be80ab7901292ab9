-- What is promised of explaining by one rule of a table (document 02, "A rule table"): it is what
-- `explain` answers and leaves for that rule's pattern. It is a type, and its proof is in proofs/.
-- This is a definition.
use Rattle.std.specs.Prelude.{List, ◌≡◌, ℕ, length}
use Rattle.answers.specs.Refusals.{first_of}
use Rattle.tables.specs.Buffers.{Tables}
use Rattle.explain_answers.specs.declared.ExplainAnswer.{ExplainAnswer}
use Rattle.explain.specs.Explain.{ExplainOutcome}
use Rattle.rules.specs.Rules.{table_size, named_refusals}
use Rattle.explain_rule.specs.ExplainRule.{numbered_pattern, ExplainRuleOutcome}

-- past 11, 4 and 5 `explain_rule` answers and leaves what `explain` does for that rule's pattern
unfoldable pub AsExplained : Type 0
AsExplained =
    (number b : ℕ) (x t : List ℕ) (lent left : Tables) (r : ExplainAnswer) → length x ≡ table_size →
    first_of (named_refusals x number) ≡ 0 → ExplainRuleOutcome number b x t lent left r →
    ExplainOutcome b (numbered_pattern x number) t lent left r
