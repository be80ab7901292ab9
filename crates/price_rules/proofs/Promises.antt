-- Of whole calls, rule by rule: two that meet the same bytes for a rule leave the same occurrences
-- of it (`RulesPricesPaired`); and when 12 is given (`PricedUnlessClaimed`), which is never for
-- rules that cannot meet (`NeverRefusedBy12`). The status and the buffer are those of a search.
use mathlib.Core.List.{List, []}
use mathlib.Core.Path.{◌≡◌, refl, sym, ◌∙◌}
use Prim.Native.Nat.{ℕ, ◌<◌}
use native.Mathlib.Omega.{arith}
use Rattle.answers.specs.Answers.{if_done}
use Rattle.tables.proofs.Cases.{clash}
use Rattle.steps.proofs.Decide.{same_texts}
use Rattle.price.specs.Promises.{PriceCall}
use Rattle.rules.proofs.Listed.{rules_counted}
use Rattle.rules.proofs.Taken.{table_patterned, patterned_each}
use Rattle.rules.specs.Rules.{rules_of, count_of}
use Rattle.rules_claims.proofs.Twice.{twice_right}
use Rattle.rules_claims.specs.Claims.{rule, found_of}
use Rattle.rules_claims.specs.Promises.{BothClaim, TwiceRight}
use Rattle.rules_meet.proofs.Apart.{never_twice}
use Rattle.rules_meet.specs.Promises.{NeverTwice}
use Rattle.rules_searches.proofs.Rows.{row_there}
use Rattle.search_rules.proofs.Promises.{search_claimed_at_12, status_by_claims, status_claimed_at_12}
use Rattle.search_rules.specs.Promises.{SearchClaimedAt12}
use Rattle.search_rules.specs.SearchRules.{all_found_left}
use Rattle.convert_rules.proofs.Promises.{convert_claimed_at_12}
use Rattle.convert_rules.specs.Paired.{RulesCall, AnyRulesSearch, by_search, by_convert, nth}
use Rattle.convert_rules.specs.Promises.{ConvertClaimedAt12}
use Rattle.price_rules.proofs.Calls.{status_of, status_0}
use Rattle.price_rules.proofs.Priced.{price_taken}
use Rattle.price_rules.specs.Promises.{RulesPriced, rule_entries, RulesPricesPaired, PricedUnlessClaimed, RulesApart, NeverRefusedBy12}

-- a call that is taken leaves the occurrences of each rule after those of the rules before
entries_right :
    (x t : List ℕ) {c : PriceCall} → RulesPriced x t c → (i : ℕ) → i < count_of x →
    rule_entries x t i c.found' ≡ found_of t (nth x i)
unfolding rule_entries if_done all_found_left
entries_right x t {c} p i l =
    rw (p.allowed.occurrences_left, status_0 x t p)
    (row_there (found_of t) (rules_of x) i (rule [] 0) (rw rules_counted l) c.found _ _ refl refl)

pub rules_prices_paired : RulesPricesPaired
unfolding RulesPricesPaired
rules_prices_paired x t u c d size p p' same_length i l same =
    let taken = price_taken x t c.lent c.found size (status_0 x t p) in
    let some = patterned_each (rules_of x) (table_patterned x taken.table) i (rw rules_counted l) in
    let (compared, listed) = same_texts (nth x i).pattern t u some same_length same in
    record {
      same_comparisons = compared;
      same_occurrences = listed;
      left_by_first = entries_right x t p i l;
      left_by_second = entries_right x u p' i l ∙ listed;
    }

pub priced_unless_claimed : PricedUnlessClaimed
unfolding PricedUnlessClaimed
priced_unless_claimed x t p o m = rw (status_of o) (status_by_claims x t p.lent p.found m)

-- rules that cannot meet claim no byte twice
apart_claim_none : (x t : List ℕ) → RulesApart x → BothClaim (rules_of x) t → ⊥
unfolding NeverTwice TwiceRight
apart_claim_none x t apart both =
    clash _ ((twice_right (rules_of x) t).1 both)
    (never_twice (rules_of x) (λ i j l u. apart i j l (omega (arith, rules_counted x))) t)

-- a search that is refused by 12, whichever it is, has two rules that do
claimed_by : (x t : List ℕ) (c : RulesCall) → AnyRulesSearch x t c → c.answer.status ≡ 12 → BothClaim (rules_of x) t
unfolding SearchClaimedAt12 ConvertClaimedAt12
claimed_by x t c (by_search o) e = search_claimed_at_12 x t _ _ _ _ _ o e
claimed_by x t c (by_convert o) e = convert_claimed_at_12 x t c o e

pub never_refused_by_12 : NeverRefusedBy12
unfolding NeverRefusedBy12
never_refused_by_12 x t apart = (
  λ c s e. apart_claim_none x t apart (claimed_by x t c s e),
  λ p o e. apart_claim_none x t apart (status_claimed_at_12 x t p.lent p.found (sym (status_of o) ∙ e)),
)
