-- When `restore_rules` is done: past 11 and 4 to 7 the test decides, and so the meaning
-- (`StatusRight`).
use mathlib.Core.Bool.{true, not, cond}
use mathlib.Core.List.{List, [], ◌∷◌}
use mathlib.Core.Logic.{⊎_elim}
use mathlib.Core.Path.{◌≡◌, refl, ◌∙◌, ap}
use Prim.Native.Nat.{ℕ, zero, suc, ◌≤◌}
use native.Mathlib.Omega.{arith}
use borrow.Author.Tests.{le-ltb, ltb-false, not-false}
use lib.ListN.{length}
use Rattle.answers.proofs.Refusals.{done_none, none_done, none_both, numbered_both, first_refused, first_passed}
use Rattle.answers.specs.Promises.{Numbered}
use Rattle.answers.specs.Answers.{status_only, if_done}
use Rattle.answers.specs.Buffers.{in_front}
use Rattle.answers.specs.Refusals.{Refusal, first_of, text_refusal, buffer_refusal, longest_text}
use Rattle.answers.specs.declared.Answer.{Answer}
use Rattle.tables.proofs.Cases.{true_or_false, clash}
use Rattle.rules.proofs.Taken.{table_inside}
use Rattle.rules.proofs.Tested.{table_taken, table_numbered}
use Rattle.rules.specs.Rules.{Rule, rules_of, table_refusals}
use Rattle.rules_conversions.proofs.Restored.{test_right}
use Rattle.rules_conversions.proofs.Table.{table_held}
use Rattle.rules_conversions.specs.Conversions.{restored, is_conversion}
use Rattle.rules_conversions.specs.Promises.{TestRight}
use Rattle.restore_rules.specs.Promises.{StatusRight}
use Rattle.restore_rules.specs.RestoreRules.{conversion_refusal, measured, restore_rules_status, restored_left}
use Rattle.restore_rules.specs.RestoreRules.{RestoreRulesOutcomeOf}

-- 11 and 4 to 7, of n frames and a buffer of l entries
module _ (x : List ℕ) (n l : ℕ) where
  abbrev later : List Refusal
  later = text_refusal n ∷ buffer_refusal l n ∷ []

  measured_numbered : Numbered (measured x n l)
  unfolding measured
  measured_numbered = numbered_both (table_refusals x) later (table_numbered x) (omega arith, (omega arith, tt))

  -- none of them holds
  pub record Measured : Type 0 where
    pub table : first_of (table_refusals x) ≡ 0
    pub text : n ≤ longest_text
    pub room : n ≤ l

  -- a status of 0 says so
  pub measured_taken : first_of (measured x n l) ≡ 0 → Measured
  unfolding measured
  measured_taken e =
      let (front, back) = none_both (table_refusals x) later (done_none (measured x n l) measured_numbered e) in
      record {
        table = none_done (table_refusals x) front;
        text = ltb-false longest_text n back.0;
        room = ltb-false l n back.1.0;
      }

  -- and back
  pub measured_done : Measured → first_of (measured x n l) ≡ 0
  unfolding measured first_of
  measured_done m =
      first_passed (table_refusals x) later (table_numbered x) refl m.table
      ∙ rw (le-ltb longest_text n m.text, le-ltb l n m.room)

-- past them the test decides
module _ (x gs : List ℕ) (l : ℕ) where
  pub tested :
      first_of (measured x (length gs) l) ≡ 0 →
      restore_rules_status x gs l ≡ cond (not (is_conversion (rules_of x) gs)) 9 0
  unfolding restore_rules_status first_of
  tested e =
      first_passed (measured x (length gs) l) (conversion_refusal (rules_of x) gs ∷ [])
      (measured_numbered x (length gs) l) refl e

  -- the frames are put back
  pub record Restorable : Type 0 where
    pub all : Measured x (length gs) l
    pub conversion : is_conversion (rules_of x) gs ≡ true

  -- a status of 0 says so
  pub restorable : restore_rules_status x gs l ≡ 0 → Restorable
  unfolding restore_rules_status
  restorable e =
      let own = conversion_refusal (rules_of x) gs ∷ [] in
      let numbered =
      numbered_both (measured x (length gs) l) own (measured_numbered x (length gs) l) (omega arith, tt) in
      let (front, back) = none_both (measured x (length gs) l) own (done_none _ numbered e) in
      record { all = measured_taken x (length gs) l (none_done _ front); conversion = not-false _ back.0 }

  -- and back
  pub restorable_done : Restorable → restore_rules_status x gs l ≡ 0
  restorable_done t = tested (measured_done x (length gs) l t.all) ∙ rw t.conversion

-- and where one holds it is the status
pub measured_refused :
    (x gs : List ℕ) (l : ℕ) {s : ℕ} → s ≡ first_of (measured x (length gs) l) → (s ≡ 0 → ⊥) →
    s ≡ restore_rules_status x gs l
unfolding restore_rules_status
measured_refused x gs l told h = first_refused (measured x (length gs) l) _ told h

-- a call answers its status
pub status_of :
    {s : ℕ} {rs : List Rule} {gs text text' : List ℕ} {r : Answer} → RestoreRulesOutcomeOf s rs gs text text' r →
    r.status ≡ s
status_of o = ap (λ (a : Answer). a.status) o.answer

pub status_right : StatusRight
unfolding StatusRight TestRight
status_right x gs text text' r size b o t short room =
    let none = measured_done x (length gs) (length text) record { table = t; text = short; room = room } in
    let status = status_of o ∙ tested x gs (length text) none in
    let taken = table_taken x size t in
    let (means, passes) = test_right (rules_of x) gs (table_held x taken b) (table_inside x taken) in
    ⊎_elim
    (λ e. (
      (λ done. means e, λ c. rw e at status),
      (λ nine. absurd (omega (arith, rw e at status)), λ none. absurd (none (means e))),
    ))
    (λ e. (
      (λ done. absurd (omega (arith, rw e at status)), λ c. absurd (clash _ (passes c) e)),
      (λ nine c. clash _ (passes c) e, λ none. rw e at status),
    ))
    (true_or_false (is_conversion (rules_of x) gs))

-- a refused call answers its status and leaves the buffer
pub refused :
    (s : ℕ) (rs : List Rule) (gs text : List ℕ) (r : Answer) → (s ≡ 0 → ⊥) → r ≡ status_only s →
    RestoreRulesOutcomeOf s rs gs text text r
unfolding if_done restored_left
refused zero rs gs text r h e = absurd (h refl)
refused (suc s) rs gs text r h e = record { answer = e; text_left = refl }

-- a call that is done leaves the frames put back
pub done :
    (rs : List Rule) (gs text text' : List ℕ) (r : Answer) → r ≡ status_only 0 →
    text' ≡ in_front (restored rs gs) text →
    RestoreRulesOutcomeOf 0 rs gs text text' r
unfolding if_done restored_left
done rs gs text text' r e f = record { answer = e; text_left = f }

-- past 11 and 4 to 7, what is worked out then is the outcome
pub outcome :
    (x gs text text' : List ℕ) (s : ℕ) (r : Answer) → first_of (measured x (length gs) (length text)) ≡ 0 →
    r ≡ status_only s →
    s ≡ cond (is_conversion (rules_of x) gs) 0 9 →
    text' ≡ cond (is_conversion (rules_of x) gs) (in_front (restored (rules_of x) gs) text) text →
    RestoreRulesOutcomeOf (restore_rules_status x gs (length text)) (rules_of x) gs text text' r
outcome x gs text text' s r none answer told left =
    let status = tested x gs (length text) none in
    ⊎_elim
    (λ e. rw (rw e at status) (done _ _ _ _ _ (rw (rw e at told) at answer) (rw e at left)))
    (λ e. rw (rw e at status, rw e at left) (refused 9 _ _ _ _ (λ y. omega arith) (rw (rw e at told) at answer)))
    (true_or_false (is_conversion (rules_of x) gs))
