-- A table of one rule: its list of rules, the conditions of a search with it, and what is left in
-- the buffers. What there is for each rule is there once, and no byte (card) is claimed twice.
use mathlib.Core.Bool.{false, cond, or-true}
use mathlib.Core.List.{List, [], ◌∷◌, ◌++◌, append-nil}
use mathlib.Core.Logic.{⊎_elim}
use mathlib.Core.Path.{◌≡◌, refl, ap}
use Prim.Native.Nat.{ℕ, zero, suc, ◌+◌, ◌*◌, ◌≤◌, ◌<◌}
use native.Mathlib.Omega.{arith}
use borrow.Author.Tests.{leb-true, leb-false, lt-ltb}
use lib.Dec.{leb, eqb}
use lib.ListN.{length, length-take, length-drop}
use Rattle.answers.specs.Answers.{converted, if_done, answered}
use Rattle.answers.specs.Buffers.{from_entry, in_front}
use Rattle.answers.specs.Refusals.{Refusal, refuse, first_of, longest_pattern, text_refusal, rule_refusals}
use Rattle.tables.proofs.Cases.{true_or_false}
use Rattle.tables.specs.Buffers.{Tables, table_refusal, tables_left}
use Rattle.tables.specs.Tables.{stored_order, stored_Δ2, stored_Δ1, stored_Δ3}
use Rattle.tables.specs.declared.TableLengths.{TableLengths}
use Rattle.steps.specs.Occurrences.{occurrences}
use Rattle.search.specs.Search.{search_done, found_left}
use Rattle.convert.specs.Convert.{frames_left}
use Rattle.restore.specs.Restore as one
use Rattle.price.specs.Price.{price_answer}
use Rattle.rules.specs.Buffers.{one_after_another, sum_over, all_tables_left}
use Rattle.rules.specs.Rules.{Rule, length_at, offset_at, rule_at, rules_from, rules_of, slot_refusals, table_refusals}
use Rattle.rules_status.specs.Measured.{search_refusals}
use Rattle.rules_answers.specs.Answers.{no_answers, all_told, rules_done, rules_answered}
use Rattle.search_rules.specs.SearchRules.{all_found_left}
use Rattle.rules_frames.proofs.One.{one_frames, one_once}
use Rattle.rules_frames.specs.Promises.{OneFrames, OneOnce}
use Rattle.convert_rules.specs.ConvertRules.{rule_frames_left}
use Rattle.price_rules.specs.PriceRules.{price_rules_answer}
use Rattle.rules_conversions.proofs.One.{one_restored}
use Rattle.rules_conversions.specs.Promises.{OneRestored}
use Rattle.restore_rules.specs.RestoreRules.{restored_left}
use Rattle.rules_one_laws.specs.Calls.{OneRule, as_one}

-- a condition that never holds, tested last, changes no status
never_last : (rs : List Refusal) (number : ℕ) → first_of (rs ++ (refuse number false ∷ [])) ≡ first_of rs
unfolding first_of
never_last [] k = refl
never_last (r ∷ rs) k = ap (λ later. cond r.holds r.number later) (never_last rs k)

-- a number added to none is itself
alone : (k : ℕ) → k + 0 ≡ k
alone k = omega arith

-- one rule, as a call for one pattern answers it
told_alone :
    (r : Rule) (t : List ℕ) (ones s : ℕ) →
    as_one (rules_answered s (rules_done (r ∷ []) t ones)) ≡ answered s (converted (search_done r.pattern t) ones)
unfolding rules_answered answered if_done all_told in_front from_entry no_answers
told_alone r t ones zero = refl
told_alone r t ones (suc s) = refl

module _ {x w : List ℕ} {q : ℕ} (o : OneRule x w q) where
  -- its rule
  abbrev r : Rule
  r = record { pattern = w; hold_offset = q }

  -- its list of rules
  pub listed : rules_of x ≡ r ∷ []
  unfolding rules_of rules_from
  listed = rw (o.one, o.rule)

  -- the entry for its length tells that of the pattern (motif), or both are above 128
  same_length :
      (length_at x 0 ≤ longest_pattern → length_at x 0 ≡ length w)
      × (longest_pattern < length_at x 0 → longest_pattern < length w)
  same_length =
      let same : length (rule_at x 0).pattern ≡ length w = ap (λ (s : Rule). length s.pattern) o.rule in
      rw (← same, length-take, length-drop) (λ h. omega (arith, o.size), λ h. omega (arith, o.size))

  -- 4 and 5 by its entries are those of the pattern and the hold offset (hold place)
  pub same_rule :
      (later : List Refusal) →
      first_of (rule_refusals (length_at x 0) (offset_at x 0) ++ later) ≡ first_of (rule_refusals (length w) q ++ later)
  unfolding first_of
  same_rule later =
      let offset : offset_at x 0 ≡ q = ap (λ (s : Rule). s.hold_offset) o.rule in
      ⊎_elim (λ e. rw (same_length.0 (leb-true (length_at x 0) longest_pattern e), offset))
      (λ e.
      let above = leb-false (length_at x 0) longest_pattern e in
      rw (
        lt-ltb longest_pattern (length_at x 0) above,
        lt-ltb longest_pattern (length w) (same_length.1 above),
        or-true (eqb (length_at x 0) 0),
        or-true (eqb (length w) 0),
      ))
      (true_or_false (leb (length_at x 0) longest_pattern))

  -- the conditions of a search with it: those of its rule, 6, and 7 by the sizes of its tables
  pub searched_by :
      (t : List ℕ) (l : TableLengths) (own : List Refusal) →
      first_of (search_refusals x t l own)
      ≡ first_of (rule_refusals (length w) q ++ (text_refusal (length t) ∷ table_refusal (length w) l ∷ own))
  unfolding search_refusals table_refusals slot_refusals first_of sum_over OneOnce
  searched_by t l own =
      rw (
        listed,
        o.one,
        one_once r t,
        alone (length w + 1),
        alone (256 * length w),
        alone (length w),
        same_rule (text_refusal (length t) ∷ table_refusal (length w) l ∷ (own ++ (refuse 12 false ∷ []))),
        never_last own 12,
      )

  -- what is left in the buffers
  pub same_tables : (s : ℕ) (lent : Tables) → all_tables_left s (rules_of x) lent ≡ tables_left s w lent
  unfolding all_tables_left tables_left one_after_another
  same_tables s lent =
      rw (
        listed,
        append-nil (stored_order w),
        append-nil (stored_Δ2 w),
        append-nil (stored_Δ1 w),
        append-nil (stored_Δ3 w),
      )

  pub same_found : (s : ℕ) (t found : List ℕ) → all_found_left s (rules_of x) t found ≡ found_left s w t found
  unfolding all_found_left found_left one_after_another
  same_found s t found = rw (listed, append-nil (occurrences w t))

  -- what is told of its rule
  pub same_answer :
      (s : ℕ) (t : List ℕ) (ones : ℕ) →
      as_one (rules_answered s (rules_done (rules_of x) t ones)) ≡ answered s (converted (search_done w t) ones)
  same_answer s t ones = rw listed (told_alone r t ones s)

  pub same_frames : (s : ℕ) (t frame : List ℕ) → rule_frames_left s (rules_of x) t frame ≡ frames_left s q w t frame
  unfolding rule_frames_left frames_left OneFrames
  same_frames s t frame = rw (listed, one_frames r t)

  pub same_pence : (s : ℕ) (t : List ℕ) → price_rules_answer s (rules_of x) t ≡ price_answer s q w t
  unfolding price_rules_answer price_answer OneFrames
  same_pence s t = rw (listed, one_frames r t)

  pub same_restored :
      (s : ℕ) (gs text : List ℕ) → restored_left s (rules_of x) gs text ≡ one.restored_left s q w gs text
  unfolding restored_left one.restored_left OneRestored
  same_restored s gs text = rw (listed, one_restored r gs)
