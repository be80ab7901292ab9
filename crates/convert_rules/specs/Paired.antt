-- Demand 3 of whole calls, rule by rule (document 02, "A rule table"): what every search with a
-- table that is taken answers and leaves, and what two of them share. Such a search is a call of
-- `search_rules` or of `convert_rules`, whatever its contract allows. These are definitions.
use Rattle.std.specs.Prelude.{true, List, [], ◌↔◌, ◌≡◌, ℕ, zero, suc, ◌+◌, ◌≤◌, ◌<◌, length, get_or, take, drop}
use Rattle.answers.specs.Bytes.{Bytes}
use Rattle.tables.specs.Buffers.{lengths}
use Rattle.tables.specs.Sets.{byte}
use Rattle.tables.specs.Tables.{period}
use Rattle.steps.specs.Bound.{search_bound}
use Rattle.steps.specs.Occurrences.{occurrences}
use Rattle.steps.specs.Promises.{SameAt}
use Rattle.steps.specs.Steps.{comparisons}
use Rattle.steps.specs.Text.{shown}
use Rattle.ring.specs.Ring.{ascending}
use Rattle.ones.specs.Ones.{count_answer}
use Rattle.frames.specs.Frames.{holds}
use Rattle.convert.specs.Paired.{Buffers}
use Rattle.rules.specs.Rules.{Rule, rules_of, rule_of, count_of, table_size}
use Rattle.rules_answers.specs.Answers.{nothing_told}
use Rattle.rules_answers.specs.declared.RuleAnswer.{RuleAnswer}
use Rattle.rules_answers.specs.declared.RulesAnswer.{RulesAnswer}
use Rattle.rules_claims.specs.Claims.{claims, claimants}
use Rattle.rules_frames.specs.RuleFrames.{hold_of, holds_of_rule}
use Rattle.search_rules.specs.SearchRules.{SearchRulesOutcome}
use Rattle.convert_rules.specs.ConvertRules.{ConvertRulesOutcome}

-- a call: the buffers that it is lent, what is in them at its exit, and its answer
pub record RulesCall : Type 0 where
  pub lent : Buffers
  pub left : Buffers
  pub answer : RulesAnswer

-- the contract of `search_rules` allows this call for the table x and the text (chain) t
abbrev pub SearchesRules : (x t : List ℕ) → RulesCall → Type 0
SearchesRules x t c =
    let b = c.lent in
    let b' = c.left in
    SearchRulesOutcome x t b.tables b'.tables b.found b'.found c.answer

-- the contract of `convert_rules` allows it
abbrev pub ConvertsRules : (x t : List ℕ) → RulesCall → Type 0
ConvertsRules x t c =
    let b = c.lent in
    let b' = c.left in
    ConvertRulesOutcome x t b.tables b'.tables b.found b'.found b.frames b'.frames c.answer

-- the call is taken
abbrev pub RulesTaken : RulesCall → Type 0
RulesTaken c = c.answer.status ≡ 0

-- a search of t with the table x
pub data AnyRulesSearch (x t : List ℕ) (c : RulesCall) : Type 0 where
  by_search : SearchesRules x t c → AnyRulesSearch x t c
  by_convert : ConvertsRules x t c → AnyRulesSearch x t c

-- what a call tells of rule i, counted from 0
abbrev pub told_by : RulesCall → (i : ℕ) → RuleAnswer
told_by c i = get_or c.answer.rules i nothing_told

-- how many occurrences (finds) it tells of the rules before i
unfoldable pub found_before : RulesCall → (i : ℕ) → ℕ
found_before c zero = 0
found_before c (suc i) = found_before c i + (told_by c i).occurrences

-- the occurrences of rule i: as many entries as it tells, after those of the rules before
unfoldable pub rule_found_by : RulesCall → (i : ℕ) → List ℕ
rule_found_by c i = take (told_by c i).occurrences (drop (found_before c i) c.left.found)

-- its holds in a ring of n: the positions (b + q) modulo n, in the order of its occurrences b
unfoldable pub rule_holds_by : (n q : ℕ) → RulesCall → (i : ℕ) → List ℕ
rule_holds_by n q c i = holds n q (rule_found_by c i)

-- the positions where the n frames of a conversion are holds of rule i, ascending
unfoldable pub rule_frames_held : (n : ℕ) → RulesCall → (i : ℕ) → List ℕ
rule_frames_held n c i = holds_of_rule (suc i) (take n c.left.frames)

-- what a search answers and leaves for rule i, whose pattern is w and whose hold offset (hold
-- place) is q: its occurrences by meaning, and their number; the number of comparisons (looks) that
-- the steps make; p; the bound, which the count keeps; 1 just where it found nothing; and after a
-- conversion just its holds are holds of that rule among the n frames, one for each occurrence
pub record RuleExact (x t : List ℕ) (c : RulesCall) (i : ℕ) (w : List ℕ) (q : ℕ) : Type 0 where
  pub occurrences_found : rule_found_by c i ≡ occurrences w t
  pub occurrences_counted : (told_by c i).occurrences ≡ length (occurrences w t)
  pub comparisons_counted : (told_by c i).comparisons ≡ length (comparisons w t)
  pub period_answered : (told_by c i).period ≡ period w
  pub bound_answered : (told_by c i).bound ≡ search_bound w t
  pub few : (told_by c i).comparisons ≤ (told_by c i).bound
  pub unmatched_where_none : ((told_by c i).unmatched ≡ 1) ↔ (occurrences w t ≡ [])
  pub unmatched_or_not : (told_by c i).unmatched ≤ 1
  pub frames_exact :
      ConvertsRules x t c → Bytes t →
      rule_frames_held (length t) c i ≡ ascending (length t) (rule_holds_by (length t) q c i)
  pub holds_counted :
      ConvertsRules x t c → Bytes t → length (rule_frames_held (length t) c i) ≡ (told_by c i).occurrences

-- rule i of a table
abbrev pub nth : (x : List ℕ) → (i : ℕ) → Rule
nth x i = rule_of (rules_of x) i

-- demand 3: this is so of every search that is taken and of each of its rules; past them nothing is
-- told, and the occurrences of all rules are at most n; and demand 2 of a conversion: frame i is
-- 256 × k where rule k claims byte i, and a move with its byte where none does
pub record RulesExact (x t : List ℕ) (c : RulesCall) : Type 0 where
  pub each : (i : ℕ) → i < count_of x → RuleExact x t c i (nth x i).pattern (nth x i).hold_offset
  pub past : (i : ℕ) → count_of x ≤ i → told_by c i ≡ nothing_told
  pub in_all : found_before c (count_of x) ≤ length t
  pub ones_counted : ConvertsRules x t c → c.answer.ones ≡ (count_answer t).ones
  pub frame_of_rule :
      ConvertsRules x t c → (i k : ℕ) → i < length t → k < count_of x → claims (nth x k) t i ≡ true →
      get_or c.left.frames i 0 ≡ hold_of (suc k)
  pub move_elsewhere :
      ConvertsRules x t c → (i : ℕ) → i < length t → claimants (rules_of x) t i ≡ 0 →
      get_or c.left.frames i 0 ≡ byte t i

-- every search that is taken, of any text with any table, answers and leaves this
unfoldable pub EveryRuleExact : Type 0
EveryRuleExact =
    (x t : List ℕ) (c : RulesCall) → length x ≡ table_size → AnyRulesSearch x t c → RulesTaken c → RulesExact x t c

-- what a search c of t and a search d of u share of rule i: the comparisons that the steps make, in
-- their order; the occurrences, as many, and their holds, of two conversions also those among the
-- frames; and the whole entry that is answered
pub record RuleShared (x t u : List ℕ) (c d : RulesCall) (i : ℕ) (w : List ℕ) (q : ℕ) : Type 0 where
  pub same_comparisons : comparisons w u ≡ comparisons w t
  pub same_occurrences : rule_found_by d i ≡ rule_found_by c i
  pub same_holds : rule_holds_by (length u) q d i ≡ rule_holds_by (length t) q c i
  pub same_held :
      ConvertsRules x t c → Bytes t → ConvertsRules x u d → Bytes u →
      rule_frames_held (length u) d i ≡ rule_frames_held (length t) c i
  pub same_told : told_by d i ≡ told_by c i

-- demand 3 rule by rule: so do any two searches with one table, both taken, of texts (rings) of
-- equal length, for each rule for which they show the same byte at every position where its search
-- of the first compares; the other rules may differ
unfoldable pub RulesPaired : Type 0
RulesPaired =
    (x t u : List ℕ) (c d : RulesCall) → length x ≡ table_size →
    AnyRulesSearch x t c → RulesTaken c → AnyRulesSearch x u d → RulesTaken d →
    length u ≡ length t → (i : ℕ) → i < count_of x →
    SameAt (comparisons (nth x i).pattern t) (shown t) (shown u) →
    RuleShared x t u c d i (nth x i).pattern (nth x i).hold_offset

-- a call d is lent buffers as long as those of a call c
pub record RulesLentAsLong (c d : RulesCall) : Type 0 where
  pub tables : lengths d.lent.tables ≡ lengths c.lent.tables
  pub found : length d.lent.found ≡ length c.lent.found
  pub frames : length d.lent.frames ≡ length c.lent.frames
