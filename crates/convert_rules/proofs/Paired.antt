-- Demand 3 of whole calls, rule by rule: every search with a table that is taken is exact for each
-- of its rules (`EveryRuleExact`), and two that meet the same bytes for a rule are alike for it
-- (`RulesPaired`). A call that answers status 0 has status 0, and then its outcome says what it
-- answers and leaves: a rule is told at its number, its occurrences stand after those of the rules
-- before it.
use mathlib.Core.Bool.{false, cond}
use mathlib.Core.List.{List, [], ◌∷◌}
use mathlib.Core.Logic.{◌↔◌}
use mathlib.Core.Path.{◌≡◌, refl, sym, ◌∙◌, ap}
use Prim.Native.Nat.{ℕ, zero, suc, ◌≤◌, ◌<◌}
use native.Mathlib.Omega.{arith}
use borrow.Author.Tests.{le-ltb, ne_eqb}
use lib.Dec.{eqb}
use lib.ListN.{length, take, drop, get_or}
use lib.Seq.{take_all, get_or-take}
use Rattle.answers.proofs.Refusals.{none_done}
use Rattle.answers.specs.Answers.{if_done, answered}
use Rattle.answers.specs.Buffers.{in_front}
use Rattle.answers.specs.Bytes.{Bytes}
use Rattle.answers.specs.Promises.{Numbered}
use Rattle.answers.specs.Refusals.{Refusal, first_of, longest_text, text_refusal, buffer_refusal}
use Rattle.tables.specs.Buffers.{lengths}
use Rattle.steps.proofs.Bound.{few_comparisons}
use Rattle.steps.proofs.Decide.{same_texts}
use Rattle.steps.proofs.Text.{span_same}
use Rattle.steps.specs.Occurrences.{occurrences}
use Rattle.steps.specs.Promises.{FewComparisons}
use Rattle.steps.specs.Steps.{comparisons}
use Rattle.steps.specs.Text.{shown, span}
use Rattle.ring.specs.Ring.{ascending}
use Rattle.ones.specs.Ones.{ones_of, count_status, count_answer}
use Rattle.frames.proofs.Holds.{holds_apart}
use Rattle.frames.specs.Frames.{holds}
use Rattle.rules.proofs.Listed.{rules_counted}
use Rattle.rules.proofs.Taken.{table_patterned, patterned_each}
use Rattle.rules.specs.Buffers.{one_after_another}
use Rattle.rules.specs.Rules.{Rule, rules_of, rule_of, count_of, table_size, TableTaken}
use Rattle.rules_answers.proofs.Answered.{done_only, rule_told, past_told}
use Rattle.rules_answers.specs.Answers.{nothing_told, told_of, all_told, rules_done, rules_answered}
use Rattle.rules_answers.specs.declared.RuleAnswer.{RuleAnswer}
use Rattle.rules_answers.specs.declared.RulesAnswer.{RulesAnswer}
use Rattle.rules_claims.proofs.Few.{few_found}
use Rattle.rules_claims.proofs.Twice.{once_each}
use Rattle.rules_claims.specs.Claims.{found_of, claimed_twice}
use Rattle.rules_claims.specs.Promises.{FewFound}
use Rattle.rules_frames.proofs.Holds.{rule_holds_right}
use Rattle.rules_frames.proofs.Marked.{frames_right as frames_of_rules}
use Rattle.rules_frames.specs.Promises.{FramesRight, RuleHoldsRight}
use Rattle.rules_frames.specs.RuleFrames.{rule_frames}
use Rattle.rules_searches.proofs.Rows.{row_there, row_adds}
use Rattle.rules_status.proofs.Measured.{search_taken}
use Rattle.rules_status.specs.Measured.{search_refusals}
use Rattle.search_rules.specs.SearchRules.{search_rules_status, all_found_left}
use Rattle.convert_rules.proofs.Converted.{frames_by}
use Rattle.convert_rules.specs.ConvertRules.{convert_rules_status, convert_rules_status_of}
use Rattle.convert_rules.specs.Paired.{RulesCall, ConvertsRules, RulesTaken, AnyRulesSearch, by_search}
use Rattle.convert_rules.specs.Paired.{by_convert, told_by, found_before, rule_found_by, rule_holds_by}
use Rattle.convert_rules.specs.Paired.{rule_frames_held, RuleExact, nth, EveryRuleExact, RulesPaired}

-- a rule past the last
abbrev none : Rule
none = record { pattern = []; hold_offset = 0 }

-- a buffer of n entries is needed
abbrev room : (t buffer : List ℕ) → Refusal
room t buffer = buffer_refusal (length buffer) (length t)

-- what a search that is taken gives
record Worked (x t : List ℕ) (c : RulesCall) : Type 0 where
  table : TableTaken x
  text : length t ≤ longest_text
  once : claimed_twice (rules_of x) t ≡ false
  told : c.answer.rules ≡ all_told (rules_of x) t
  found_left : c.left.found ≡ in_front (one_after_another (found_of t) (rules_of x)) c.lent.found

module _ {x t : List ℕ} {c : RulesCall} (size : length x ≡ table_size) where
  -- from a call's own conditions, its answer, whatever ones that has, and its buffer of occurrences
  worked :
      (own : List Refusal) (ones : ℕ) → Numbered own →
      let s = first_of (search_refusals x t (lengths c.lent.tables) own) in
      c.answer ≡ rules_answered s (rules_done (rules_of x) t ones) →
      c.left.found ≡ all_found_left s (rules_of x) t c.lent.found → RulesTaken c → Worked x t c
  unfolding if_done rules_answered all_found_left
  worked own ones numbered answer left e =
      let done = done_only _ (rules_done (rules_of x) t ones) answer e in
      let m = search_taken x t (lengths c.lent.tables) own size numbered done in
      record {
        table = m.table;
        text = m.text;
        once = m.once;
        told = ap (λ (a : RulesAnswer). a.rules) (rw done at answer);
        found_left = rw done at left;
      }

  -- of either call
  search_worked : AnyRulesSearch x t c → RulesTaken c → Worked x t c
  unfolding search_rules_status convert_rules_status
  search_worked (by_search h) e =
      worked (room t c.lent.found ∷ []) 0 (omega arith) h.answer h.occurrences_left e
  search_worked (by_convert h) e =
      worked (room t c.lent.found ∷ room t c.lent.frames ∷ []) (ones_of t) (omega arith) h.answer
      h.occurrences_left e

module _ {x t : List ℕ} {c : RulesCall} (h : Worked x t c) where
  abbrev rs : List Rule
  rs = rules_of x

  -- past the rules nothing is told
  past : (i : ℕ) → count_of x ≤ i → told_by c i ≡ nothing_told
  past i l = rw h.told (past_told rs t i (rw rules_counted l))

  module _ (i : ℕ) (l : i < count_of x) where
    within : i < length rs
    within = rw rules_counted l

    -- of each rule its search is told
    here : told_by c i ≡ told_of t (rule_of rs i)
    here = rw h.told (rule_told rs t i within)

    nonempty : 1 ≤ length (rule_of rs i).pattern
    nonempty = patterned_each rs (table_patterned x h.table) i within

  -- the occurrences of the rules before i are as many as are told
  before_is : (i : ℕ) → i ≤ count_of x → length (one_after_another (found_of t) (take i rs)) ≡ found_before c i
  unfolding found_before one_after_another
  before_is zero l = refl
  before_is (suc i) l =
      row_adds (found_of t) rs i none (within i (omega arith)) ∙ rw (before_is i (omega arith), here i (omega arith))

  -- the occurrences of all rules are at most n
  in_all : found_before c (count_of x) ≤ length t
  unfolding FewFound
  in_all =
      let all : take (count_of x) rs ≡ rs = take_all (count_of x) rs (omega (arith, rules_counted x)) in
      omega (
        arith,
        rw all at (before_is (count_of x) (omega arith)),
        few_found rs t (λ e. table_patterned x h.table) h.once,
      )

  -- as many entries as are told, after those of the rules before, are the occurrences
  found_right : (i : ℕ) → i < count_of x → rule_found_by c i ≡ found_of t (rule_of rs i)
  unfolding rule_found_by
  found_right i l =
      ap (λ (left : List ℕ). take (told_by c i).occurrences (drop (found_before c i) left)) h.found_left
      ∙ row_there (found_of t) rs i none (within i l) c.lent.found (found_before c i) (told_by c i).occurrences
      (before_is i (omega arith)) (sym (ap (λ (a : RuleAnswer). a.occurrences) (here i l)))

  -- just its holds are holds of a rule among the frames of a conversion
  frames_right :
      (i : ℕ) → i < count_of x → ConvertsRules x t c → RulesTaken c → Bytes t →
      rule_frames_held (length t) c i
      ≡ ascending (length t) (holds (length t) (rule_of rs i).hold_offset (found_of t (rule_of rs i)))
  unfolding rule_frames_held RuleHoldsRight
  frames_right i l v e bytes = rw (frames_by x v e) (rule_holds_right rs t i bytes h.once (within i l))

  -- a conversion answers the ones that counting them answers
  ones_right : ConvertsRules x t c → RulesTaken c → c.answer.ones ≡ (count_answer t).ones
  unfolding count_answer count_status if_done answered rules_answered
  ones_right v e =
      let done : convert_rules_status_of x t c.lent.tables c.lent.found c.lent.frames ≡ 0 =
      done_only _ (rules_done rs t (ones_of t)) v.answer e in
      rw (none_done (text_refusal (length t) ∷ []) (le-ltb _ _ h.text, tt))
      (ap (λ (a : RulesAnswer). a.ones) (rw done at v.answer))

-- each frame of a conversion is that of its rules
frame_right :
    (x : List ℕ) {t : List ℕ} {c : RulesCall} → ConvertsRules x t c → RulesTaken c → (i : ℕ) → i < length t →
    get_or c.left.frames i 0 ≡ get_or (rule_frames (rules_of x) t) i 0
frame_right x {t} {c} v e i l = sym (get_or-take (length t) c.left.frames i 0 l) ∙ rw (frames_by x v e)

-- 1 is told just where a list is empty, and 0 elsewhere
abbrev told_of_none : List ℕ → ℕ
told_of_none xs = cond (eqb (length xs) 0) 1 0

empty_told : (xs : List ℕ) → ((told_of_none xs ≡ 1) ↔ (xs ≡ [])) × (told_of_none xs ≤ 1)
empty_told [] = ((λ e. refl, λ e. refl), omega arith)
empty_told (x ∷ xs) =
    rw (ne_eqb (length (x ∷ xs)) 0 (λ e. omega arith))
    ((λ e. absurd (omega arith), λ e. absurd (omega (arith, ap length e))), omega arith)

-- so a search is exact for each rule
rule_exact :
    {x t : List ℕ} {c : RulesCall} → Worked x t c → RulesTaken c → (i : ℕ) → i < count_of x →
    RuleExact x t c i (nth x i).pattern (nth x i).hold_offset
unfolding rule_holds_by comparisons occurrences FewComparisons
rule_exact {x} {t} {c} h e i l =
    let r = nth x i in
    let told = here h i l in
    let counted : (told_by c i).occurrences ≡ length (occurrences r.pattern t) =
    ap (λ (a : RuleAnswer). a.occurrences) told in
    record {
      occurrences_found = found_right h i l;
      occurrences_counted = counted;
      comparisons_counted = ap (λ (a : RuleAnswer). a.comparisons) told;
      period_answered = ap (λ (a : RuleAnswer). a.period) told;
      bound_answered = ap (λ (a : RuleAnswer). a.bound) told;
      few = rw told (few_comparisons (shown t) (span r.pattern t) r.pattern (nonempty h i l));
      unmatched_where_none = rw told (empty_told (occurrences r.pattern t)).0;
      unmatched_or_not = rw told (empty_told (occurrences r.pattern t)).1;
      frames_exact = λ v bytes. rw (found_right h i l) (frames_right h i l v e bytes);
      holds_counted = λ v bytes.
          rw (frames_right h i l v e bytes, counted) (holds_apart r.hold_offset r.pattern t (nonempty h i l));
    }

pub every_rule_exact : EveryRuleExact
unfolding EveryRuleExact FramesRight
every_rule_exact x t c size s e =
    let h = search_worked size s e in
    record {
      each = λ i l. rule_exact h e i l;
      past = past h;
      in_all = in_all h;
      ones_counted = λ v. ones_right h v e;
      frame_of_rule = λ v i k l u y.
          frame_right x v e i l ∙ (frames_of_rules (rules_of x) t i l).0 (once_each (rules_of x) t h.once i l) k (within h k u) y;
      move_elsewhere = λ v i l none. frame_right x v e i l ∙ (frames_of_rules (rules_of x) t i l).1 none;
    }

pub rules_paired : RulesPaired
unfolding RulesPaired rule_holds_by
rules_paired x t u c d size s e s' e' same_length i l same =
    let w = (nth x i).pattern in
    let h = search_worked size s e in
    let h' = search_worked size s' e' in
    let y = rule_exact h e i l in
    let y' = rule_exact h' e' i l in
    let (compared, listed) = same_texts w t u (nonempty h i l) same_length same in
    let found : rule_found_by d i ≡ rule_found_by c i = rw (y.occurrences_found, y'.occurrences_found) listed in
    record {
      same_comparisons = compared;
      same_occurrences = found;
      same_holds = rw (same_length, found);
      same_held = λ v b v' b'. y'.frames_exact v' b' ∙ rw (same_length, found) (sym (y.frames_exact v b));
      same_told = here h' i l ∙ rw (compared, listed, span_same w t u same_length) (sym (here h i l));
    }
