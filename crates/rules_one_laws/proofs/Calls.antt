-- The calls with a table of one rule are those for one pattern: they are refused by the same
-- conditions, and then answer and leave the same. `search` and `explain` have no condition 5.
use mathlib.Core.Bool.{Bool, true, false, cond}
use mathlib.Core.List.{List, [], ◌∷◌, ◌++◌}
use mathlib.Core.Path.{◌≡◌, refl, ◌∙◌, ap}
use Prim.Native.Nat.{ℕ, zero, suc}
use native.Mathlib.Omega.{arith}
use lib.ListN.{length}
use Rattle.answers.proofs.Answered.{status_answered}
use Rattle.answers.specs.Answers.{converted, if_done}
use Rattle.answers.specs.Refusals.{Refusal, first_of, pattern_refusal, hold_refusal, text_refusal, buffer_refusal}
use Rattle.answers.specs.Refusals.{rule_refusals, job_refusals}
use Rattle.tables.specs.Buffers.{Tables, lengths, table_refusal}
use Rattle.search.specs.Search.{search_status, search_status_of, search_done}
use Rattle.convert.specs.Convert.{convert_status, convert_status_of}
use Rattle.convert.specs.Paired.{Buffers}
use Rattle.restore.specs.Restore as one
use Rattle.price.specs.Price.{price_status, price_status_of}
use Rattle.explain_answers.specs.Answer.{explained}
use Rattle.explain_answers.specs.declared.Explanation.{Explanation}
use Rattle.explain_answers.specs.declared.Explanation.TheVariants.{Listed, Tried, PassedOver}
use Rattle.explain_answers.specs.declared.ExplainAnswer.{ExplainAnswer}
use Rattle.explain_meaning.specs.Explanation.{explanation_in}
use Rattle.explain.specs.Explain.{position_refusal, explain_status, explain_status_of, explain_answer}
use Rattle.rules.specs.Rules.{Rule, rule_of, rules_of, slot_refusals, table_refusals, named_refusals}
use Rattle.rules_answers.specs.Answers.{rules_done, rules_answered}
use Rattle.rules_answers.specs.declared.RulesAnswer.{RulesAnswer}
use Rattle.search_rules.specs.SearchRules.{search_rules_status, search_rules_status_of}
use Rattle.convert_rules.specs.ConvertRules.{convert_rules_status, convert_rules_status_of}
use Rattle.convert_rules.specs.Paired.{by_search, by_convert}
use Rattle.price_rules.proofs.Promises.{never_refused_by_12}
use Rattle.price_rules.specs.Promises.{NeverRefusedBy12}
use Rattle.rules_conversions.proofs.One.{one_tested}
use Rattle.rules_conversions.specs.Promises.{OneTested}
use Rattle.restore_rules.specs.RestoreRules.{measured, restore_rules_status}
use Rattle.explain_rule.specs.ExplainRule.{numbered_pattern, explain_rule_status}
use Rattle.rules_one_laws.proofs.One.{listed, same_rule, searched_by, same_tables, same_found, same_answer}
use Rattle.rules_one_laws.proofs.One.{same_frames, same_pence, same_restored}
use Rattle.rules_one_laws.specs.Calls.{OneRule, as_one, OneSearched, OneConverted, OnePriced, OneRestored}
use Rattle.rules_one_laws.specs.Calls.{OneExplained, OneNeverTwice}

-- a status that is not 5 is the same without that condition
passed_5 :
    (four five : Bool) (later : ℕ) → (cond four 4 (cond five 5 later) ≡ 5 → ⊥) →
    cond four 4 (cond five 5 later) ≡ cond four 4 later
passed_5 true five later h = refl
passed_5 false true later h = absurd (h refl)
passed_5 false false later h = refl

without_5 :
    (m q : ℕ) (later : List Refusal) {s : ℕ} → s ≡ first_of (rule_refusals m q ++ later) → (s ≡ 5 → ⊥) →
    s ≡ first_of (pattern_refusal m ∷ later)
unfolding first_of
without_5 m q later e h =
    e ∙ passed_5 (pattern_refusal m).holds (hold_refusal m q).holds (first_of later) (λ five. h (e ∙ five))

module _ {x w : List ℕ} {q : ℕ} (o : OneRule x w q) where
  -- the statuses of `convert`, `price`, `restore`, `search` and `explain`
  converted_status :
      (t : List ℕ) (lent : Tables) (found frame : List ℕ) →
      convert_rules_status_of x t lent found frame ≡ convert_status_of q w t lent found frame
  unfolding convert_rules_status convert_status job_refusals
  converted_status t lent found frame =
      searched_by o t (lengths lent)
      (buffer_refusal (length found) (length t) ∷ buffer_refusal (length frame) (length t) ∷ [])

  priced_status :
      (t : List ℕ) (lent : Tables) (found : List ℕ) →
      search_rules_status_of x t lent found ≡ price_status_of q w t lent found
  unfolding search_rules_status price_status job_refusals
  priced_status t lent found = searched_by o t (lengths lent) (buffer_refusal (length found) (length t) ∷ [])

  restored_status : (gs : List ℕ) (l : ℕ) → restore_rules_status x gs l ≡ one.restore_status q w gs l
  unfolding restore_rules_status measured table_refusals slot_refusals first_of one.restore_status
      job_refusals OneTested
  restored_status gs l =
      rw (
        listed o,
        o.one,
        one_tested (record { pattern = w; hold_offset = q }) gs,
        same_rule o (text_refusal (length gs) ∷ buffer_refusal l (length gs) ∷ one.conversion_refusal q w gs ∷ []),
      )

  searched_status :
      (t : List ℕ) (lent : Tables) (found : List ℕ) → (search_rules_status_of x t lent found ≡ 5 → ⊥) →
      search_rules_status_of x t lent found ≡ search_status_of w t lent found
  unfolding search_rules_status search_status
  searched_status t lent found =
      let own = buffer_refusal (length found) (length t) ∷ [] in
      let later = text_refusal (length t) ∷ table_refusal (length w) (lengths lent) ∷ own in
      without_5 (length w) q later (searched_by o t (lengths lent) own)

  -- rule 1 has its pattern
  same_pattern : numbered_pattern x 1 ≡ w
  same_pattern = ap (λ (rs : List Rule). (rule_of rs 0).pattern) (listed o)

  explained_status :
      (t : List ℕ) (b : ℕ) (lent : Tables) → (explain_rule_status x 1 (length t) b (lengths lent) ≡ 5 → ⊥) →
      explain_rule_status x 1 (length t) b (lengths lent) ≡ explain_status_of b w t lent
  unfolding explain_rule_status named_refusals slot_refusals explain_status first_of
  explained_status t b lent =
      let later =
      text_refusal (length t) ∷ table_refusal (length w) (lengths lent) ∷ position_refusal (length t) b ∷ [] in
      without_5 (length w) q later (rw (o.one, same_pattern, same_rule o later))

  -- the calls answer their status
  status_told :
      {s : ℕ} (t : List ℕ) (ones : ℕ) {r : RulesAnswer} → r ≡ rules_answered s (rules_done (rules_of x) t ones) →
      r.status ≡ s
  status_told {s} t ones e =
      status_answered s (converted (search_done w t) ones) (ap as_one e ∙ same_answer o s t ones) refl

pub one_converted : OneConverted
unfolding OneConverted
one_converted x w q t lent left found found' frame frame' r o h =
    let k = rw (converted_status o t lent found frame) at h in
    record {
      answer = ap as_one k.answer ∙ same_answer o _ t _;
      tables = k.tables ∙ same_tables o _ lent;
      occurrences_left = k.occurrences_left ∙ same_found o _ t found;
      moves_and_holds_left = k.moves_and_holds_left ∙ same_frames o _ t frame;
    }

pub one_priced : OnePriced
unfolding OnePriced
one_priced x w q t lent left found found' r o h =
    let k = rw (priced_status o t lent found) at h in
    record {
      answer = k.answer ∙ same_pence o _ t;
      tables = k.tables ∙ same_tables o _ lent;
      occurrences_left = k.occurrences_left ∙ same_found o _ t found;
    }

pub one_restored : OneRestored
unfolding OneRestored
one_restored x w q gs text text' r o h =
    let k = rw (restored_status o gs (length text)) at h in
    record { answer = k.answer; text_left = k.text_left ∙ same_restored o _ gs text }

pub one_searched : OneSearched
unfolding OneSearched
one_searched x w q t lent left found found' r o h not_5 =
    let status = status_told o t 0 h.answer in
    let k = rw (searched_status o t lent found (λ e. not_5 (status ∙ e))) at h in
    record {
      answer = ap as_one k.answer ∙ same_answer o _ t 0;
      tables = k.tables ∙ same_tables o _ lent;
      occurrences_left = k.occurrences_left ∙ same_found o _ t found;
    }

-- `explain` answers its status
told_0 : (told : Explanation) → (explained told).answer.status ≡ 0
told_0 Listed = refl
told_0 (Tried i) = refl
told_0 (PassedOver from j k) = refl

pub status_explained :
    (s b : ℕ) (w t : List ℕ) {r : ExplainAnswer} → r ≡ explain_answer s b w t → r.answer.status ≡ s
unfolding explain_answer if_done
status_explained zero b w t e = rw e (told_0 (explanation_in b w t))
status_explained (suc s) b w t e = rw e refl

pub one_explained : OneExplained
unfolding OneExplained
one_explained x w q b t lent left r o h not_5 =
    let status = status_explained _ b (numbered_pattern x 1) t h.answer in
    rw (explained_status o t b lent (λ e. not_5 (status ∙ e)), same_pattern o) at h

-- there are no two rules that could meet
pub one_never_twice : OneNeverTwice
unfolding OneNeverTwice NeverRefusedBy12
one_never_twice x w q t lent left found found' frame frame' o =
    let (searches, prices) = never_refused_by_12 x t (λ i j l u. absurd (omega (arith, o.one))) in
    let at_entry : Buffers = record { tables = lent; found = found; frames = frame } in
    let at_exit : Buffers = record { tables = left; found = found'; frames = frame' } in (
      λ r h. searches (record { lent = at_entry; left = at_exit; answer = r }) (by_search h),
      (
        λ r h. searches (record { lent = at_entry; left = at_exit; answer = r }) (by_convert h),
        λ r h. prices (record { lent = lent; left = left; found = found; found' = found'; answer = r }) h,
      ),
    )
