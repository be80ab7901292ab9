-- What explaining a position by one rule of a table answers and leaves in its buffers (document 02,
-- "A rule table"). These are definitions.
use Rattle.std.specs.Prelude.{List, [], ◌∷◌, ◌++◌, ℕ, ◌-◌, length}
use Rattle.answers.specs.Refusals.{first_of, text_refusal}
use Rattle.tables.specs.Buffers.{Tables, lengths, table_refusal}
use Rattle.tables.specs.declared.TableLengths.{TableLengths}
use Rattle.explain_answers.specs.declared.ExplainAnswer.{ExplainAnswer}
use Rattle.explain.specs.Explain.{position_refusal, ExplainOutcomeOf}
use Rattle.rules.specs.Rules.{rule_of, rules_of, named_refusals}

-- the pattern (motif) of the rule of this number
abbrev pub numbered_pattern : (image : List ℕ) → (number : ℕ) → List ℕ
numbered_pattern x number = (rule_of (rules_of x) (number - 1)).pattern

-- the status of explaining: 11 of the table and of the number, 4 and 5 of each rule, 6, 7 for the
-- tables of that rule alone, 10
unfoldable pub explain_rule_status : (image : List ℕ) → (number n b : ℕ) → TableLengths → ℕ
explain_rule_status x number n b l =
    first_of (named_refusals x number
    ++ (text_refusal n ∷ table_refusal (length (numbered_pattern x number)) l ∷ position_refusal n b ∷ []))

-- what `explain_rule` answers and leaves, of the status that its conditions give: as `explain`
-- does, by the pattern of that rule
abbrev pub ExplainRuleOutcome :
    (number b : ℕ) (image t : List ℕ) (lent left : Tables) (r : ExplainAnswer) → Type 0
ExplainRuleOutcome number b x t lent left r =
    ExplainOutcomeOf (explain_rule_status x number (length t) b (lengths lent)) b (numbered_pattern x number) t
    lent left r
