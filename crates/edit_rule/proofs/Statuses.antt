-- The status of an edit is 0, 4, 5 or 11, the numbers that its conditions have.
-- By induction on the list of conditions, which goes from slot to slot.
use mathlib.Core.List.{List, [], ◌∷◌, ◌++◌}
use mathlib.Core.Logic.{◌⊎◌, inl, inr, ⊎_elim}
use mathlib.Core.Path.{◌≡◌, refl}
use Prim.Native.Nat.{ℕ, zero, suc}
use Rattle.answers.specs.Refusals.{Refusal, first_of, rule_refusals}
use Rattle.tables.proofs.Cases.{true_or_false}
use Rattle.rules.specs.Rules.{count_of, length_at, offset_at, slot_refusals, named_refusals}
use Rattle.edit_rule.specs.Edit.{edit_refusals, edit_status}

-- done, or one of an edit's refusals
abbrev Known : ℕ → Type 0
Known s = (s ≡ 0) ⊎ ((s ≡ 4) ⊎ ((s ≡ 5) ⊎ (s ≡ 11)))

by_4 : Known 4
by_4 = inr (inl refl)

by_5 : Known 5
by_5 = inr (inr (inl refl))

by_11 : Known 11
by_11 = inr (inr (inr refl))

-- without a condition it is done
none_known : Known (first_of [])
unfolding first_of
none_known = inl refl

-- a condition of such a number before others
known_first : (r : Refusal) (rs : List Refusal) → Known r.number → Known (first_of rs) → Known (first_of (r ∷ rs))
unfolding first_of
known_first r rs here later = ⊎_elim (λ e. rw e here) (λ e. rw e later) (true_or_false r.holds)

-- 4 and 5 of a rule before others
known_rule : (m q : ℕ) (rs : List Refusal) → Known (first_of rs) → Known (first_of (rule_refusals m q ++ rs))
known_rule m q rs later = known_first _ _ by_4 (known_first _ rs by_5 later)

-- and of each of the k rules from slot i on
known_slots :
    (x : List ℕ) (k i : ℕ) (rs : List Refusal) → Known (first_of rs) → Known (first_of (slot_refusals x k i ++ rs))
unfolding slot_refusals
known_slots x zero i rs later = later
known_slots x (suc k) i rs later =
    known_rule (length_at x i) (offset_at x i) (slot_refusals x k (suc i) ++ rs) (known_slots x k (suc i) rs later)

pub status_known : (x : List ℕ) (number m q : ℕ) → Known (edit_status x number m q)
unfolding edit_status edit_refusals named_refusals
status_known x number m q =
    known_first _ _ by_11
    (known_first _ _ by_11
    (known_slots x (count_of x) 0 (rule_refusals m q) (known_rule m q [] none_known)))
