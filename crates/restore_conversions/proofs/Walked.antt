-- Moves and holds read one by one as the bytes that they are put back to, with the longest prefix of a rule's pattern that ends there: the rule's holds
-- are right just where frame (b + q) modulo n is one exactly if the whole pattern ends before b + m. Frame by frame, by the test.
use mathlib.Core.Bool.{true, false, not}
use mathlib.Core.List.{List}
use mathlib.Core.Logic.{⊎_elim}
use mathlib.Core.Path.{◌≡◌, sym, ◌∙◌, ap}
use Prim.Native.Nat.{ℕ, suc, ◌+◌, ◌-◌, ◌%◌, ◌≤◌, ◌<◌}
use native.Mathlib.Nat.{eq-or-lt_of_le, le_of_suc-le-suc, suc-add, mod-lt, mod-eq_of_lt}
use native.Mathlib.Omega.{arith}
use borrow.Author.Tests.{lt-ltb, le-ltb, eq-eqb, ne_eqb}
use lib.Dec.{ltb, eqb}
use lib.ListN.{length, get_or}
use Rattle.tables.proofs.Cases.{true_or_false, eq_or_ne, equal}
use Rattle.tables.proofs.Least.{all_each, each_all}
use Rattle.tables.specs.Least.{all_from}
use Rattle.steps.proofs.Text.{shown_at, span_reaches}
use Rattle.steps.specs.Text.{shown, span}
use Rattle.ring.proofs.Back.{back_inside, back_on, on_back}
use Rattle.ring.specs.Ring.{back}
use Rattle.frames.proofs.Holds.{held_at}
use Rattle.frames.specs.Frames.{is_held}
use Rattle.restore_prefixes.proofs.Walk.{prefix_on, occurrence_ends, prefix_within}
use Rattle.restore_prefixes.specs.Prefixes.{longest_prefix, extended}
use Rattle.restore_prefixes.specs.Promises.{OccurrenceEnds}
use Rattle.restore_conversions.proofs.Numbered.{length_back, back_entry}
use Rattle.restore_conversions.specs.Restored.{is_frame, restored_byte, all_restored}
use Rattle.restore_conversions.specs.Walk.{AllFrames, frame_at, right_at, rule_right, shows, holds_at, ends_from, Walked}

-- the position that an occurrence b would hold is held just where the whole pattern ends before b + m
held_ends :
    (q b : ℕ) (w t : List ℕ) → 1 ≤ length w → b < length t →
    is_held q w t ((b + q) % length t) ≡ eqb (longest_prefix (shown t) w (b + length w)) (length w)
unfolding OccurrenceEnds
held_ends q b w t some l =
    let n = length t in
    let some' : 1 ≤ n = omega arith in
    held_at w t some q ((b + q) % n) (mod-lt (b + q) some')
    ∙ rw (on_back n some' b q, mod-eq_of_lt l) (occurrence_ends (shown t) (span w t) w b (span_reaches w t some b l))

-- what is shown of frames put back is the byte of the frame there
pub shown_back : (hs gs : List ℕ) (x : ℕ) → shown (all_restored hs gs) x ≡ restored_byte hs (frame_at gs x)
shown_back hs gs x = shown_at (all_restored hs gs) x ∙ rw length_back (back_entry hs gs _)

-- a prefix is longer than the pattern's last position just where it is the whole pattern
whole : (m prefix : ℕ) → 1 ≤ m → prefix ≤ m → ltb (m - 1) prefix ≡ eqb prefix m
whole m prefix some few =
    ⊎_elim
    (λ e. lt-ltb (m - 1) prefix (omega arith) ∙ sym (eq-eqb prefix m e))
    (λ d. le-ltb (m - 1) prefix (omega arith) ∙ sym (ne_eqb prefix m d))
    (eq_or_ne prefix m)

-- where the test passes each is a move or a hold
pub each_frame : (count : ℕ) (gs : List ℕ) → all_from (length gs) 0 (λ i. is_frame count (get_or gs i 0)) ≡ true → AllFrames count gs
each_frame count gs e =
    record { frame = λ i l. all_each (length gs) 0 (λ i. is_frame count (get_or gs i 0)) e i (omega arith) (omega arith) }

module _ (h q : ℕ) (w hs gs : List ℕ) where
  -- no frames at all are right
  pub none_right : length gs ≡ 0 → rule_right h q w hs gs ≡ true
  unfolding rule_right
  none_right none = each_all (length gs) 0 (right_at h q w hs gs) (λ i l u. absurd (omega arith))

  -- where a rule is right, it is so frame by frame
  pub each_right :
      rule_right h q w hs gs ≡ true → (i : ℕ) → i < length gs → eqb (get_or gs i 0) h ≡ is_held q w (all_restored hs gs) i
  unfolding rule_right
  each_right e i l = equal _ _ (ap not (all_each (length gs) 0 (right_at h q w hs gs) e i (omega arith) (omega arith)))

  pub right_each :
      ((i : ℕ) → i < length gs → eqb (get_or gs i 0) h ≡ is_held q w (all_restored hs gs) i) → rule_right h q w hs gs ≡ true
  unfolding rule_right
  right_each all =
      each_all (length gs) 0 (right_at h q w hs gs)
      (λ i l u. rw (all i (omega arith)) (⊎_elim (λ y. rw y) (λ y. rw y) (true_or_false (is_held q w (all_restored hs gs) i))))

  -- one frame that is wrong is enough
  fails : (i : ℕ) → i < length gs → (eqb (get_or gs i 0) h ≡ is_held q w (all_restored hs gs) i → ⊥) → rule_right h q w hs gs ≡ false
  fails i l wrong =
      ⊎_elim (λ all. absurd (wrong (each_right all i l))) (λ e. e) (true_or_false (rule_right h q w hs gs))

  module _ (some : 1 ≤ length w) where
    -- so it is with what is put back
    held_back : (b : ℕ) → b < length gs → is_held q w (all_restored hs gs) ((b + q) % length gs) ≡ ends_from h q w hs gs b
    held_back b l = rw (← length_back hs gs) (held_ends q b w (all_restored hs gs) some (rw length_back l))

    -- one position on: `next` is the prefix extended by the byte of the frame there
    module _
        (b prefix next : ℕ) (r : Walked h q w hs gs b prefix)
        (grown : next ≡ extended w prefix (restored_byte hs (frame_at gs (b + (length w - 1))))) where
      next_is : next ≡ longest_prefix (shows h q w hs gs) w (suc (b + (length w - 1)))
      next_is = prefix_on (shows h q w hs gs) w (b + (length w - 1)) prefix next _ r.here (sym (shown_back hs gs _)) grown

      next_ends : ltb (length w - 1) next ≡ ends_from h q w hs gs b
      next_ends =
          let there : suc (b + (length w - 1)) ≡ b + length w = omega arith in
          whole (length w) next some (prefix_within _ _ _ _ next_is) ∙ rw (← rw there at next_is)

      pub walked_on : holds_at h q w hs gs b ≡ ltb (length w - 1) next → Walked h q w hs gs (suc b) next
      walked_on right = record {
        here = rw suc-add next_is;
        right = λ c l. ⊎_elim (λ e. rw e (right ∙ next_ends)) (r.right c) (eq-or-lt_of_le (le_of_suc-le-suc l));
      }

      -- a hold where none ends is wrong, and so is another frame where one ends
      pub wrong_fails : b < length gs → (holds_at h q w hs gs b ≡ ltb (length w - 1) next → ⊥) → rule_right h q w hs gs ≡ false
      wrong_fails l wrong =
          fails _ (mod-lt (b + q) (omega arith)) (λ same. wrong (same ∙ held_back b l ∙ sym next_ends))

    -- all positions are walked over, and each frame is the one of the position that is q back from it
    pub walked_all : {b prefix : ℕ} → Walked h q w hs gs b prefix → length gs ≤ b → rule_right h q w hs gs ≡ true
    walked_all r past =
        let n = length gs in
        right_each (λ i inside.
        let some' : 1 ≤ n = omega arith in
        let c = back n i q in
        let below : c < n = back_inside n some' i q in
        let there : (c + q) % n ≡ i = back_on n some' i q ∙ mod-eq_of_lt inside in
        rw there at (r.right c (omega arith) ∙ sym (held_back c below)))
