-- Of whole calls: a table and a ring, and both turned alike, searched, converted and priced
-- (`RulesSearchesTurned`, `RulesStatusTurned`, `RulesPricesTurned`). A call that is taken
-- answers and leaves of each rule what the definitions give, and what is promised of these does the
-- rest.
use mathlib.Core.List.{List}
use mathlib.Core.Path.{sym, ◌∙◌}
use Prim.Native.Nat.{ℕ, ◌≤◌, ◌<◌}
use native.Mathlib.Omega.{arith}
use lib.ListN.{length}
use Rattle.answers.specs.Bytes.{Bytes}
use Rattle.convert_rules.proofs.Converted.{frames_by}
use Rattle.convert_rules.proofs.Paired.{every_rule_exact}
use Rattle.convert_rules.specs.Paired.{nth, RulesCall, RuleExact, EveryRuleExact}
use Rattle.price_rules.proofs.Calls.{pence_by}
use Rattle.turn.proofs.Turned.{length_turned}
use Rattle.turn.specs.Turned.{turned}
use Rattle.turn_laws.proofs.Calls.{same_count as count_turned}
use Rattle.turn_laws.proofs.Occurrences.{occurrences_turned, number_turned, period_turned, bound_turned}
use Rattle.turn_laws.specs.Promises.{OccurrencesTurned, NumberTurned, PeriodTurned, BoundTurned}
use Rattle.rules.proofs.Listed.{rules_counted}
use Rattle.rules.proofs.Taken.{table_inside, inside_each}
use Rattle.rules.specs.Rules.{rules_of, Inside}
use Rattle.rules_rotation_laws.proofs.Alike.{Alike, statuses_alike, prices_alike, search_table, price_table}
use Rattle.rules_rotation_laws.proofs.Alike.{unmatched_alike}
use Rattle.rules_turn_laws.proofs.Frames.{rule_frames_turned, twice_turned, rules_cost_turned}
use Rattle.rules_turn_laws.proofs.Table.{rules_bytes, bytes_of, needed_turned, same_count, nth_turned}
use Rattle.rules_turn_laws.proofs.Table.{refusals_alike}
use Rattle.rules_turn_laws.specs.Calls.{RuleAlikeTurned, RulesSearchesTurned, RulesStatusTurned}
use Rattle.rules_turn_laws.specs.Calls.{TableTurned, RulesPricesTurned, RulesPriceStatusTurned}
use Rattle.rules_turn_laws.specs.Promises.{turned_rule, RuleFramesTurned, TwiceTurned, RulesCostTurned}

-- of one rule, whose pattern is w, and of its pattern turned
rule_alike :
    (way : ℕ) (x x' t : List ℕ) (c d : RulesCall) (i q q' : ℕ) →
    let w = (nth x i).pattern in
    1 ≤ length w → Bytes w → Bytes t → RuleExact x t c i w q → RuleExact x' (turned way t) d i (turned way w) q' →
    RuleAlikeTurned way x t c d i
unfolding OccurrencesTurned NumberTurned PeriodTurned BoundTurned
rule_alike way x x' t c d i q q' some hw ht a b =
    let w = (nth x i).pattern in
    let number = number_turned way w t some hw ht in
    record {
      occurrences_turned = rw (a.occurrences_found, b.occurrences_found) (occurrences_turned way w t some hw ht);
      same_number = rw (a.occurrences_counted, b.occurrences_counted) number;
      same_period = b.period_answered ∙ period_turned way w hw ∙ sym a.period_answered;
      same_bound = b.bound_answered ∙ bound_turned way w t some hw ht ∙ sym a.bound_answered;
      same_unmatched = unmatched_alike a b number;
    }

pub rules_searches_turned : RulesSearchesTurned
unfolding RulesSearchesTurned EveryRuleExact RuleFramesTurned turned_rule
rules_searches_turned way x x' t v ht c d s e s' e' =
    let rs = rules_of x in
    let u = turned way t in
    let bytes = rules_bytes x v.bytes in
    let inside = table_inside x (search_table v.size s e) in
    let a = every_rule_exact x t c v.size s e in
    let b = every_rule_exact x' u d v.size' s' e' in
    record {
      each = λ i l.
          let within : i < length rs = rw rules_counted l in
          let some : 1 ≤ length (nth x i).pattern = omega (arith, inside_each rs inside i within) in
          rule_alike way x x' t c d i _ _ some (bytes_of rs bytes i within) ht (a.each i l)
          (rw (nth_turned v i l) at (b.each i (rw (same_count v) l)));
      frames_turned = λ h h'.
          rw (frames_by x h e, rw (length_turned, v.rules) at (frames_by x' h' e'))
          (rule_frames_turned way rs t bytes ht inside);
      same_ones = λ h h'. rw (a.ones_counted h, b.ones_counted h', count_turned way t ht);
    }

-- the status goes by the same of the table and the ring turned
turned_alike :
    (way : ℕ) (x x' t : List ℕ) → TableTurned way x x' → Inside (rules_of x) → Bytes t → Alike x x' t (turned way t)
unfolding TwiceTurned
turned_alike way x x' t v inside ht = record {
  refusals = refusals_alike v inside;
  needed = λ l. rw v.rules (needed_turned way (rules_of x) l);
  text = length_turned way t;
  twice = rw v.rules (twice_turned way (rules_of x) t (rules_bytes x v.bytes) ht inside);
}

pub rules_status_turned : RulesStatusTurned
unfolding RulesStatusTurned
rules_status_turned way x x' t c d v inside ht same = statuses_alike (turned_alike way x x' t v inside ht) c d same

pub rules_price_status_turned : RulesPriceStatusTurned
unfolding RulesPriceStatusTurned
rules_price_status_turned way x x' t c d v ht inside same = prices_alike (turned_alike way x x' t v inside ht) c d same

pub rules_prices_turned : RulesPricesTurned
unfolding RulesPricesTurned RulesCostTurned
rules_prices_turned way x x' t c d v ht p p' =
    let inside = table_inside x (price_table v.size p) in
    rw (pence_by x t p, pence_by x' (turned way t) p', v.rules)
    (rules_cost_turned way (rules_of x) t (rules_bytes x v.bytes) ht inside)
