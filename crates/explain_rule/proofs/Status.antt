-- The status of explaining by one rule: 11, 4 and 5 of the table decide, and past them it is that
-- of explaining by the rule's pattern. By the list of conditions, of which 4 is passed.
use mathlib.Core.List.{List}
use mathlib.Core.Path.{◌≡◌, refl, sym, ◌∙◌, ap}
use Prim.Native.Nat.{ℕ, ◌-◌, ◌≤◌, ◌<◌}
use native.Mathlib.Omega.{arith}
use lib.ListN.{length}
use Rattle.answers.proofs.Refusals.{first_refused, first_passed, limits_none}
use Rattle.answers.specs.Refusals.{first_of, WithinLimits}
use Rattle.tables.specs.Buffers.{Tables, lengths, PatternTaken}
use Rattle.tables.specs.declared.TableLengths.{TableLengths}
use Rattle.explain.specs.Explain.{explain_status, ExplainOutcome}
use Rattle.explain_answers.specs.declared.ExplainAnswer.{ExplainAnswer}
use Rattle.rules.proofs.Listed.{rule_listed, pattern_length}
use Rattle.rules.proofs.Tested.{named_numbered, named_taken}
use Rattle.rules.specs.Rules.{Rule, most_rules, table_size, count_of, rule_at, named_refusals}
use Rattle.explain_rule.specs.ExplainRule.{numbered_pattern, explain_rule_status, ExplainRuleOutcome}

module _ (x : List ℕ) (number : ℕ) (size : length x ≡ table_size) (e : first_of (named_refusals x number) ≡ 0) where
  -- the number is a rule's, which has a pattern that is taken, and stands in its slot
  pub record Named : Type 0 where
    pub some : 1 ≤ number
    pub inside : number - 1 < count_of x
    pub pattern : PatternTaken (numbered_pattern x number)
    pub listed : (rule_at x (number - 1)).pattern ≡ numbered_pattern x number

  pub named : Named
  named =
      let (table, rule) = named_taken x size number e in
      let inside : number - 1 < count_of x = omega (arith, rule.some, rule.inside) in
      let slot : number - 1 < most_rules = omega (arith, rule.few) in
      let short = table.lengths (number - 1) inside in
      let hold = table.offsets (number - 1) inside in
      let listed : (rule_at x (number - 1)).pattern ≡ numbered_pattern x number =
      sym (ap (λ (r : Rule). r.pattern) (rule_listed x (number - 1) _ inside)) in
      let long = rw listed at (pattern_length x size (number - 1) slot short) in
      record {
        some = rule.some;
        inside = inside;
        pattern = record { some = omega (arith, long, hold); few = omega (arith, long, short) };
        listed = listed;
      }

module _ (x : List ℕ) (number n b : ℕ) (l : TableLengths) where
  -- the table or the number is refused
  pub rule_refused :
      {s : ℕ} → s ≡ first_of (named_refusals x number) → (s ≡ 0 → ⊥) → s ≡ explain_rule_status x number n b l
  unfolding explain_rule_status
  rule_refused tested h = first_refused (named_refusals x number) _ tested h

  -- neither is
  pub rule_passed :
      length x ≡ table_size → first_of (named_refusals x number) ≡ 0 →
      explain_rule_status x number n b l ≡ explain_status (length (numbered_pattern x number)) n b l
  unfolding explain_rule_status explain_status first_of
  rule_passed size e =
      let taken = (named x number size e).pattern in
      let m = length (numbered_pattern x number) in
      let limits : WithinLimits m 0 0
      = record { hold_offset = taken.some; pattern = taken.few; text = omega arith } in
      let none = limits_none m 0 0 {Rest = Unit {0}} limits tt in
      first_passed (named_refusals x number) _ (named_numbered x number) refl e ∙ rw none.0

-- so explaining by the pattern w that stands in its slot is explaining by the rule
pub rule_explained :
    (x : List ℕ) (number : ℕ) {w t : List ℕ} {b : ℕ} {lent left : Tables} {r : ExplainAnswer} →
    length x ≡ table_size → first_of (named_refusals x number) ≡ 0 → w ≡ (rule_at x (number - 1)).pattern →
    ExplainOutcome b w t lent left r → ExplainRuleOutcome number b x t lent left r
rule_explained x number {w} {t} {b} {lent} size e pattern o =
    rw (rule_passed x number (length t) b (lengths lent) size e) (rw (pattern ∙ (named x number size e).listed) at o)
