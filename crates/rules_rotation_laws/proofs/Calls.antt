-- Of whole calls with one table: a ring, and the ring started r bytes later, searched, converted
-- and priced (`RulesSearchesRotated`, `RulesStatusRotated`, `RulesPricesRotated`). A call
-- that is taken answers and leaves of each rule what the definitions give, and what is promised of
-- these does the rest.
use mathlib.Core.List.{List}
use mathlib.Core.Path.{◌≡◌, refl, sym, ◌∙◌}
use Prim.Native.Nat.{ℕ}
use Rattle.ones.specs.Ones.{count_answer}
use Rattle.convert_rules.proofs.Converted.{frames_by}
use Rattle.convert_rules.proofs.Paired.{every_rule_exact}
use Rattle.convert_rules.specs.Paired.{nth, EveryRuleExact}
use Rattle.price_rules.proofs.Calls.{pence_by}
use Rattle.rotation_laws.proofs.Occurrences.{occurrences_rotated, number_rotated, bound_rotated}
use Rattle.rotation_laws.proofs.Rotated.{length_rotated, ones_rotated}
use Rattle.rotation_laws.specs.Promises.{rotated, OccurrencesRotated, NumberRotated, OnesRotated, BoundRotated}
use Rattle.rules.proofs.Listed.{rules_counted}
use Rattle.rules.proofs.Taken.{table_patterned, patterned_each}
use Rattle.rules.specs.Rules.{rules_of}
use Rattle.rules_rotation_laws.proofs.Alike.{Alike, statuses_alike, prices_alike, search_table, unmatched_alike}
use Rattle.rules_rotation_laws.proofs.Frames.{rule_frames_rotated, twice_rotated, rules_cost_rotated}
use Rattle.rules_rotation_laws.specs.Calls.{RulesSearchesRotated, RulesStatusRotated, RulesPricesRotated}
use Rattle.rules_rotation_laws.specs.Calls.{RulesPriceStatusRotated}
use Rattle.rules_rotation_laws.specs.Promises.{RuleFramesRotated, TwiceRotated, RulesCostRotated}

-- counting answers the same of the ring started later
count_rotated : (r : ℕ) (t : List ℕ) → count_answer (rotated r t) ≡ count_answer t
unfolding count_answer OnesRotated
count_rotated r t = rw (length_rotated, ones_rotated r t)

pub rules_searches_rotated : RulesSearchesRotated
unfolding RulesSearchesRotated EveryRuleExact OccurrencesRotated NumberRotated BoundRotated RuleFramesRotated
rules_searches_rotated r x t size h c d s e s' e' =
    let u = rotated r t in
    let some = table_patterned x (search_table size s e) in
    let a = every_rule_exact x t c size s e in
    let b = every_rule_exact x u d size s' e' in
    record {
      each = λ i l.
          let w = (nth x i).pattern in
          let y = a.each i l in
          let y' = b.each i l in
          let here = patterned_each (rules_of x) some i (rw rules_counted l) in
          let number = number_rotated r w t here h in
          record {
            occurrences_rotated = rw (y.occurrences_found, y'.occurrences_found) (occurrences_rotated r w t here h);
            same_number = rw (y.occurrences_counted, y'.occurrences_counted) number;
            same_period = y'.period_answered ∙ sym y.period_answered;
            same_bound = rw (y.bound_answered, y'.bound_answered) (bound_rotated r w t here h).0;
            same_unmatched = unmatched_alike y y' number;
            few = y.few;
            few_rotated = y'.few;
          };
      frames_rotated = λ v v'.
          rw (frames_by x v e, rw length_rotated at (frames_by x v' e'))
          (rule_frames_rotated r (rules_of x) t);
      same_ones = λ v v'. rw (a.ones_counted v, b.ones_counted v', count_rotated r t);
    }

-- the status goes by the same of the ring started later
rotated_alike : (r : ℕ) (x t : List ℕ) → Alike x x t (rotated r t)
unfolding TwiceRotated
rotated_alike r x t = record {
  refusals = refl;
  needed = λ l. refl;
  text = length_rotated r t;
  twice = twice_rotated r (rules_of x) t;
}

pub rules_status_rotated : RulesStatusRotated
unfolding RulesStatusRotated
rules_status_rotated r x t c d same = statuses_alike (rotated_alike r x t) c d same

pub rules_price_status_rotated : RulesPriceStatusRotated
unfolding RulesPriceStatusRotated
rules_price_status_rotated r x t c d same = prices_alike (rotated_alike r x t) c d same

pub rules_prices_rotated : RulesPricesRotated
unfolding RulesPricesRotated RulesCostRotated
rules_prices_rotated r x t c d p p' =
    rw (pence_by x t p, pence_by x (rotated r t) p') (rules_cost_rotated r (rules_of x) t)
