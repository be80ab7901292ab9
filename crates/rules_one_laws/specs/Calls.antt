-- A table of one rule is a pattern (motif) and its hold offset (hold place): the calls with such a
-- table answer and leave what the calls for one pattern do, and never refuse by 12. Each is a type,
-- and its proof is in proofs/. These are definitions.
use Rattle.std.specs.Prelude.{List, ◌≡◌, ℕ, length, get_or}
use Rattle.answers.specs.declared.Answer.{Answer}
use Rattle.tables.specs.Buffers.{Tables}
use Rattle.search.specs.Search.{SearchOutcome}
use Rattle.convert.specs.Convert.{ConvertOutcome}
use Rattle.restore.specs.Restore.{RestoreOutcome}
use Rattle.price.specs.Price.{PriceOutcome}
use Rattle.price.specs.declared.PriceAnswer.{PriceAnswer}
use Rattle.explain.specs.Explain.{ExplainOutcome}
use Rattle.explain_answers.specs.declared.ExplainAnswer.{ExplainAnswer}
use Rattle.rules.specs.Rules.{table_size, count_of, rule_at}
use Rattle.rules_answers.specs.Answers.{nothing_told}
use Rattle.rules_answers.specs.declared.RulesAnswer.{RulesAnswer}
use Rattle.search_rules.specs.SearchRules.{SearchRulesOutcome}
use Rattle.convert_rules.specs.ConvertRules.{ConvertRulesOutcome}
use Rattle.price_rules.specs.PriceRules.{PriceRulesOutcome}
use Rattle.restore_rules.specs.RestoreRules.{RestoreRulesOutcome}
use Rattle.explain_rule.specs.ExplainRule.{ExplainRuleOutcome}

-- a table of one rule, w with q
pub record OneRule (x w : List ℕ) (q : ℕ) : Type 0 where
  pub size : length x ≡ table_size
  pub one : count_of x ≡ 1
  pub rule : rule_at x 0 ≡ record { pattern = w; hold_offset = q }

-- what is told of its rule, as a call for one pattern answers it
abbrev pub as_one : RulesAnswer → Answer
as_one r =
    let first = get_or r.rules 0 nothing_told in
    record {
      status = r.status;
      occurrences = first.occurrences;
      comparisons = first.comparisons;
      ones = r.ones;
      period = first.period;
      bound = first.bound;
    }

-- `search_rules` answers and leaves what `search` does, which takes no hold offset and so never
-- refuses by 5
unfoldable pub OneSearched : Type 0
OneSearched =
    (x w : List ℕ) (q : ℕ) (t : List ℕ) (lent left : Tables) (found found' : List ℕ) (r : RulesAnswer) →
    OneRule x w q → SearchRulesOutcome x t lent left found found' r → (r.status ≡ 5 → ⊥) →
    SearchOutcome w t lent left found found' (as_one r)

-- `convert_rules` what `convert` does
unfoldable pub OneConverted : Type 0
OneConverted =
    (x w : List ℕ) (q : ℕ) (t : List ℕ) (lent left : Tables) (found found' frame frame' : List ℕ) (r : RulesAnswer) →
    OneRule x w q → ConvertRulesOutcome x t lent left found found' frame frame' r →
    ConvertOutcome q w t lent left found found' frame frame' (as_one r)

-- `price_rules` what `price` does
unfoldable pub OnePriced : Type 0
OnePriced =
    (x w : List ℕ) (q : ℕ) (t : List ℕ) (lent left : Tables) (found found' : List ℕ) (r : PriceAnswer) →
    OneRule x w q → PriceRulesOutcome x t lent left found found' r → PriceOutcome q w t lent left found found' r

-- `restore_rules` what `restore` does
unfoldable pub OneRestored : Type 0
OneRestored =
    (x w : List ℕ) (q : ℕ) (gs text text' : List ℕ) (r : Answer) →
    OneRule x w q → RestoreRulesOutcome x gs text text' r → RestoreOutcome q w gs text text' r

-- `explain_rule` of rule 1 what `explain` does, which takes no hold offset
unfoldable pub OneExplained : Type 0
OneExplained =
    (x w : List ℕ) (q b : ℕ) (t : List ℕ) (lent left : Tables) (r : ExplainAnswer) →
    OneRule x w q → ExplainRuleOutcome 1 b x t lent left r → (r.answer.status ≡ 5 → ⊥) →
    ExplainOutcome b w t lent left r

-- and none of them refuses by 12
unfoldable pub OneNeverTwice : Type 0
OneNeverTwice =
    (x w : List ℕ) (q : ℕ) (t : List ℕ) (lent left : Tables) (found found' frame frame' : List ℕ) →
    OneRule x w q →
    ((r : RulesAnswer) → SearchRulesOutcome x t lent left found found' r → r.status ≡ 12 → ⊥)
    × (((r : RulesAnswer) → ConvertRulesOutcome x t lent left found found' frame frame' r → r.status ≡ 12 → ⊥)
    × ((r : PriceAnswer) → PriceRulesOutcome x t lent left found found' r → r.answer.status ≡ 12 → ⊥))
