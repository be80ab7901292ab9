-- What pricing with a table of rules answers and leaves in its buffers (document 02, "A rule
-- table"). These are definitions.
use Rattle.std.specs.Prelude.{List, ◌≡◌, ℕ, sum_by}
use Rattle.answers.specs.Answers.{status_only, if_done}
use Rattle.tables.specs.Buffers.{Tables}
use Rattle.price_tariff.specs.Tariff.{cost}
use Rattle.price.specs.declared.PriceAnswer.{PriceAnswer}
use Rattle.rules.specs.Buffers.{all_tables_left}
use Rattle.rules.specs.Rules.{Rule, rules_of}
use Rattle.rules_answers.specs.declared.RuleAnswer.{RuleAnswer}
use Rattle.rules_frames.specs.RuleFrames.{rule_frames}
use Rattle.search_rules.specs.SearchRules.{search_rules_status_of, all_found_left}

-- the occurrences (finds) that are told of the rules, summed up
abbrev pub occurrences_told : (answers : List RuleAnswer) → ℕ
occurrences_told answers = sum_by (λ a. a.occurrences) answers

-- what a text (chain) costs with the frames that the rules convert it to
abbrev pub rules_cost : List Rule → (t : List ℕ) → ℕ
rules_cost rs t = cost t (rule_frames rs t)

-- pricing answers none of what every answer has beside its status; it also answers the pence, 0
-- where it is refused
unfoldable pub price_rules_answer : (status : ℕ) → List Rule → (t : List ℕ) → PriceAnswer
price_rules_answer s rs t = record { answer = status_only s; pence = if_done s (rules_cost rs t) 0 }

-- what `price_rules` answers and leaves, of status s, by the rules of its table: tables and
-- occurrences are left as `search_rules` leaves them
pub record PriceRulesOutcomeOf
    (s : ℕ) (rs : List Rule) (t : List ℕ) (lent left : Tables) (found found' : List ℕ) (r : PriceAnswer) : Type 0 where
  pub answer : r ≡ price_rules_answer s rs t
  pub tables : left ≡ all_tables_left s rs lent
  pub occurrences_left : found' ≡ all_found_left s rs t found

-- of the status that its conditions give, which are those of `search_rules`
abbrev pub PriceRulesOutcome :
    (image t : List ℕ) (lent left : Tables) (found found' : List ℕ) (r : PriceAnswer) → Type 0
PriceRulesOutcome x t lent left found found' r =
    PriceRulesOutcomeOf (search_rules_status_of x t lent found) (rules_of x) t lent left found found' r
