-- 11, 4 and 5 of a table: what is tested slot by slot, and what holds of a table and a number that
-- are not refused. By the list of conditions, which goes from slot to slot.
use mathlib.Core.Bool.{false}
use mathlib.Core.Logic.{⊎_elim}
use mathlib.Core.List.{List, [], ◌∷◌, ◌++◌}
use mathlib.Core.Path.{◌≡◌, sym, ◌∙◌}
use Prim.Native.Nat.{ℕ, zero, suc, ◌+◌, ◌-◌, ◌≤◌, ◌<◌}
use native.Mathlib.Nat.{eq-or-lt_of_le}
use native.Mathlib.Omega.{arith}
use borrow.Author.Tests.{ltb-false, leb-false, eqb-false, le-ltb}
use lib.Dec.{eqb, ltb}
use lib.ListN.{length}
use Rattle.answers.proofs.Refusals.{done_none, first_refused, first_passed, same_past, neither, pattern_within}
use Rattle.answers.specs.Promises.{Numbered, NoneHolds}
use Rattle.answers.specs.Refusals.{Refusal, first_of, longest_pattern, rule_refusals}
use Rattle.rules.specs.Rules.{most_rules, table_size, count_of, length_at, offset_at, TableTaken}
use Rattle.rules.specs.Rules.{count_refusal, number_refusal, slot_refusals, table_refusals, named_refusals}

-- 4 and 5 of the rule in slot i
abbrev refusals_at : (x : List ℕ) → (i : ℕ) → List Refusal
refusals_at x i = rule_refusals (length_at x i) (offset_at x i)

-- neither holds
abbrev pub SlotTaken : (x : List ℕ) → (i : ℕ) → Type 0
SlotTaken x i = (length_at x i ≤ longest_pattern) × (offset_at x i < length_at x i)

module _ (x : List ℕ) (k : ℕ) where
  -- none of the rules before slot i is refused
  pub record Passed (i : ℕ) : Type 0 where
    pub upto : i ≤ k
    pub same : first_of (slot_refusals x k 0) ≡ first_of (slot_refusals x (k - i) i)

  -- there are none before slot 0
  pub none_passed : Passed 0
  none_passed =
      let whole : k - 0 ≡ k = omega arith in
      record { upto = omega arith; same = rw whole }

  module _ {i : ℕ} (p : Passed i) where
    module _ (l : i < k) {s : ℕ} (tested : s ≡ first_of (refusals_at x i)) where
      -- slot i is tested next
      here : first_of (slot_refusals x k 0) ≡ first_of (refusals_at x i ++ slot_refusals x (k - suc i) (suc i))
      unfolding slot_refusals
      here =
          let one : k - i ≡ suc (k - suc i) = omega arith in
          p.same ∙ rw one

      -- where it is refused, so is the table
      pub slot_refused : (s ≡ 0 → ⊥) → s ≡ first_of (slot_refusals x k 0)
      slot_refused h = first_refused (refusals_at x i) _ tested h ∙ sym here

      -- and else the test goes on
      pub slot_passed : s ≡ 0 → Passed (suc i)
      slot_passed e = record {
        upto = omega arith;
        same = here ∙ first_passed (refusals_at x i) _ (omega arith) tested e;
      }

    -- past the last slot none is refused
    pub all_passed : k ≤ i → 0 ≡ first_of (slot_refusals x k 0)
    unfolding slot_refusals first_of
    all_passed h =
        let none : k - i ≡ 0 = omega arith in
        sym (p.same ∙ rw none)

-- no refusal has the number 0
slots_numbered : (x : List ℕ) (k i : ℕ) → Numbered (slot_refusals x k i)
unfolding slot_refusals
slots_numbered x zero i = tt
slots_numbered x (suc k) i = (omega arith, (omega arith, slots_numbered x k (suc i)))

pub table_numbered : (x : List ℕ) → Numbered (table_refusals x)
unfolding table_refusals
table_numbered x = (omega arith, slots_numbered x (count_of x) 0)

pub named_numbered : (x : List ℕ) (number : ℕ) → Numbered (named_refusals x number)
unfolding named_refusals
named_numbered x number = (omega arith, (omega arith, slots_numbered x (count_of x) 0))

-- where none of 4 and 5 holds, each slot is taken
slots_taken : (x : List ℕ) (k i : ℕ) → NoneHolds (slot_refusals x k i) → (j : ℕ) → i ≤ j → j < i + k → SlotTaken x j
unfolding slot_refusals
slots_taken x zero i h j l u = absurd (omega arith)
slots_taken x (suc k) i h j l u =
    ⊎_elim
    (λ (e : i ≡ j). rw (← e) ((pattern_within _ h.0).1, leb-false _ _ h.1.0))
    (λ m. slots_taken x k (suc i) h.1.1 j m (omega arith))
    (eq-or-lt_of_le l)

-- 11 of the number of rules does not hold
count_within : (k : ℕ) → (count_refusal k).holds ≡ false → (1 ≤ k) × (k ≤ most_rules)
count_within k c =
    let (some, few) = neither (eqb k 0) (ltb most_rules k) c in
    (omega (arith, eqb-false k 0 some), ltb-false most_rules k few)

-- nor does 11 of a rule's number
pub record NumberedRule (k number : ℕ) : Type 0 where
  pub few : k ≤ most_rules
  pub some : 1 ≤ number
  pub inside : number ≤ k

-- a number that is not refused is that of a rule
pub rule_numbered :
    (k number : ℕ) → (count_refusal k).holds ≡ false → (number_refusal k number).holds ≡ false → NumberedRule k number
rule_numbered k number c n =
    let (some, inside) = neither (eqb number 0) (ltb k number) n in
    record {
      few = (count_within k c).1;
      some = omega (arith, eqb-false number 0 some);
      inside = ltb-false k number inside;
    }

-- a table that is not refused is taken
module _ (x : List ℕ) (size : length x ≡ table_size) where
  taken : NoneHolds (count_refusal (count_of x) ∷ slot_refusals x (count_of x) 0) → TableTaken x
  taken h =
      let slots = slots_taken x (count_of x) 0 h.1 in
      record {
        size = size;
        few = (count_within (count_of x) h.0).1;
        lengths = λ i l. (slots i (omega arith) (omega arith)).0;
        offsets = λ i l. (slots i (omega arith) (omega arith)).1;
      }

  pub table_taken : first_of (table_refusals x) ≡ 0 → TableTaken x
  unfolding table_refusals
  table_taken e = taken (done_none (table_refusals x) (table_numbered x) e)

  -- and so is one that is not refused with a number, which is a rule's
  pub named_taken :
      (number : ℕ) → first_of (named_refusals x number) ≡ 0 → TableTaken x × NumberedRule (count_of x) number
  unfolding named_refusals
  named_taken number e =
      let none = done_none (named_refusals x number) (named_numbered x number) e in
      (taken (none.0, none.1.1), rule_numbered (count_of x) number none.0 none.1.0)

-- a table that is not refused has rules
pub table_some : (x : List ℕ) → first_of (table_refusals x) ≡ 0 → 1 ≤ count_of x
unfolding table_refusals
table_some x e = (count_within (count_of x) (done_none (table_refusals x) (table_numbered x) e).0).0

-- rule 1 is a rule of each table that has rules
pub first_named : (x : List ℕ) → first_of (named_refusals x 1) ≡ first_of (table_refusals x)
unfolding named_refusals table_refusals first_of
first_named x =
    let slots = slot_refusals x (count_of x) 0 in
    same_past (count_refusal (count_of x) ∷ []) (number_refusal (count_of x) 1 ∷ slots) slots
    (λ h. rw (le-ltb (count_of x) 1 (count_within (count_of x) h.0).0))
