-- What is promised of pricing with a table of rules (document 02, "A rule table"): of the cost, and
-- of whole calls, for all that their contracts allow. Each is a type, and its proof is in proofs/.
-- These are definitions.
use Rattle.std.specs.Prelude.{false, List, ◌≢◌, ◌≡◌, ℕ, ◌<◌, length, take, drop}
use Rattle.answers.specs.Bytes.{Bytes}
use Rattle.tables.specs.Buffers.{Tables}
use Rattle.steps.specs.Occurrences.{occurrences}
use Rattle.steps.specs.Promises.{SameAt}
use Rattle.steps.specs.Steps.{comparisons}
use Rattle.steps.specs.Text.{shown}
use Rattle.price_tariff.specs.Sums.{cost_by_holds}
use Rattle.price_tariff.specs.Tariff.{cost}
use Rattle.price.specs.Promises.{PriceCall}
use Rattle.price.specs.declared.PriceAnswer.{PriceAnswer}
use Rattle.rules.specs.Buffers.{one_after_another}
use Rattle.rules.specs.Rules.{Rule, Patterned, rules_of, count_of, table_size}
use Rattle.rules_answers.specs.declared.RulesAnswer.{RulesAnswer}
use Rattle.rules_claims.specs.Claims.{found_of, claimed_twice}
use Rattle.rules_meet.specs.Meeting.{can_meet}
use Rattle.search_rules.specs.Promises.{RulesMeasured, ByClaims}
use Rattle.search_rules.specs.SearchRules.{SearchRulesOutcome}
use Rattle.convert_rules.specs.Paired.{RulesCall, RulesTaken, ConvertsRules, AnyRulesSearch, nth}
use Rattle.price_rules.specs.PriceRules.{rules_cost, PriceRulesOutcome}

-- where no byte is claimed twice, the cost by the frames is that by the number of all rules'
-- occurrences (finds), each of which adds one hold
unfoldable pub RulesCostCounted : Type 0
RulesCostCounted =
    (rs : List Rule) (t : List ℕ) → (length t ≡ 0 → Patterned rs) → Bytes t → claimed_twice rs t ≡ false →
    rules_cost rs t ≡ cost_by_holds t (length (one_after_another (found_of t) rs))

-- the contract of `price_rules` allows this call with the table x for the text (chain) t
abbrev pub PricesRules : (x t : List ℕ) → PriceCall → Type 0
PricesRules x t c = PriceRulesOutcome x t c.lent c.left c.found c.found' c.answer

-- it is taken, too
pub record RulesPriced (x t : List ℕ) (c : PriceCall) : Type 0 where
  pub allowed : PricesRules x t c
  pub taken : c.answer.answer.status ≡ 0

-- `price_rules` and `convert_rules` of one table and one text, both taken: the pence are what the
-- text costs with the frames that the conversion left
unfoldable pub RuleFramesPriced : Type 0
RuleFramesPriced =
    (x t : List ℕ) (p : PriceCall) → RulesPriced x t p → (c : RulesCall) → ConvertsRules x t c → RulesTaken c →
    p.answer.pence ≡ cost t (take (length t) c.left.frames)

-- `price_rules` answers the status that `search_rules` with the same buffers answers, and leaves
-- the same tables and occurrences in them
unfoldable pub AsBySearchRules : Type 0
AsBySearchRules =
    (x t : List ℕ) (lent left searched : Tables) (found found' listed : List ℕ) (r : PriceAnswer) (a : RulesAnswer)
    → PriceRulesOutcome x t lent left found found' r → SearchRulesOutcome x t lent searched found listed a
    → (r.answer.status ≡ a.status) × ((left ≡ searched) × (found' ≡ listed))

-- where the occurrences of rule i stand in a buffer that a search of t has left: as many entries as
-- it has, after those of the rules before it
unfoldable pub rule_entries : (x t : List ℕ) → (i : ℕ) → (found : List ℕ) → List ℕ
rule_entries x t i found =
    take (length (found_of t (nth x i))) (drop (length (one_after_another (found_of t) (take i (rules_of x)))) found)

-- what a call c for t and a call d for u, by one table, share of rule i, whose pattern (motif) is
-- w: the comparisons (looks) that its searches make, and its occurrences, which both have left
pub record RulePricedAlike (x t u : List ℕ) (c d : PriceCall) (i : ℕ) (w : List ℕ) : Type 0 where
  pub same_comparisons : comparisons w u ≡ comparisons w t
  pub same_occurrences : occurrences w u ≡ occurrences w t
  pub left_by_first : rule_entries x t i c.found' ≡ occurrences w t
  pub left_by_second : rule_entries x u i d.found' ≡ occurrences w t

-- demand 3 rule by rule: so do any two calls of `price_rules` with one table, both taken, for texts
-- (rings) of equal length, for each rule for which they show the same byte (card) at every position
-- where its search of the first compares; the other rules may differ
unfoldable pub RulesPricesPaired : Type 0
RulesPricesPaired =
    (x t u : List ℕ) (c d : PriceCall) → length x ≡ table_size → RulesPriced x t c → RulesPriced x u d →
    length u ≡ length t → (i : ℕ) → i < count_of x →
    SameAt (comparisons (nth x i).pattern t) (shown t) (shown u) → RulePricedAlike x t u c d i (nth x i).pattern

-- past all that comes before 12 `price_rules` is done just where no two rules claim one byte of the
-- ring t, and answers 12 just where two do
unfoldable pub PricedUnlessClaimed : Type 0
PricedUnlessClaimed =
    (x t : List ℕ) (p : PriceCall) → PricesRules x t p → RulesMeasured x t p.lent p.found →
    ByClaims p.answer.answer.status (rules_of x) t

-- no two rules of the table x can claim one byte of a ring
abbrev pub RulesApart : (x : List ℕ) → Type 0
RulesApart x = (i j : ℕ) → i < j → j < count_of x → can_meet (nth x i) (nth x j) ≡ false

-- such a table is refused by 12 by no call, for any text and whatever the call is lent
unfoldable pub NeverRefusedBy12 : Type 0
NeverRefusedBy12 =
    (x t : List ℕ) → RulesApart x →
    ((c : RulesCall) → AnyRulesSearch x t c → c.answer.status ≢ 12)
    × ((p : PriceCall) → PricesRules x t p → p.answer.answer.status ≢ 12)
