-- A table after an edit that is taken: what is written, what is kept, and the rules that it has.
-- By what stands before, in and after the entries that are put into a buffer, and slot by slot.
use mathlib.Core.List.{List, [], ◌∷◌, ◌++◌, append_assoc}
use mathlib.Core.Logic.{⊎_elim}
use mathlib.Core.Path.{◌≡◌, refl, sym, ◌∙◌, ap}
use Prim.Native.Nat.{ℕ, zero, suc, ◌+◌, ◌-◌, ◌*◌, ◌≤◌, ◌<◌}
use native.Mathlib.Nat.{add-zero, zero-add}
use native.Mathlib.Omega.{arith}
use lib.ListN.{length, get_or, set, take, drop, length-append, length-drop, take-append-drop}
use lib.Seq.{length-take-le, take-append-le, take-take, take_at, get_or-take, get_or-drop}
use lib.Seq.{drop-append-le, drop-append-add, drop-drop, drop_at}
use Rattle.answers.proofs.Fronts.{from_entry_length}
use Rattle.answers.proofs.Partly.{put_none, put_store, put_more}
use Rattle.answers.specs.Buffers.{from_entry}
use Rattle.answers.specs.Refusals.{longest_pattern}
use Rattle.tables.proofs.Cases.{le_or_lt, eq_or_ne}
use Rattle.rules.proofs.Tested.{SlotTaken}
use Rattle.rules.specs.Rules.{Rule, table_size, count_of, slot, length_at, rule_at, rules_from, rules_of}
use Rattle.rules.specs.Rules.{TableTaken}
use Rattle.edit_rule.proofs.Taken.{EditTaken}
use Rattle.edit_rule.specs.Edit.{edited}

-- a length and a hold offset are stored, and a pattern is put after them
pub slot_put :
    (x w : List ℕ) (at m q : ℕ) → at + 2 + length w ≤ length x →
    from_entry (at + 2) w (set (set x at m) (at + 1) q) ≡ from_entry at (m ∷ q ∷ w) x
slot_put x w at m q room =
    let e : at + 1 + 1 ≡ at + 2 = omega arith in
    let two = put_store (put_store (put_none at x) m (omega arith)) q (omega arith) in
    rw e at (put_more {more = w} (omega arith) two (record { buffer = refl; after = refl })).buffer

-- the k entries from n on are those of the front that has them
front_part :
    {A : Type 0} (xs ys : List A) (n k : ℕ) → n + k ≤ length xs → take k (drop n (xs ++ ys)) ≡ take k (drop n xs)
front_part xs ys n k h =
    rw (drop-append-le n xs ys (omega arith)) (take-append-le k (drop n xs) ys (simp length-drop (omega arith)))

module _ {A : Type 0} (at : ℕ) (new old : List A) (room : at + length new ≤ length old) where
  -- what stands before new entries is kept
  from_entry_before : (n k : ℕ) → n + k ≤ at → take k (drop n (from_entry at new old)) ≡ take k (drop n old)
  unfolding from_entry
  from_entry_before n k h =
      let inside : n + k ≤ length (take at old) = rw (length-take-le at old (omega arith)) h in
      rw append_assoc
      (front_part (take at old) (new ++ drop (length new) (drop at old)) n k inside
      ∙ sym (front_part (take at old) (drop at old) n k inside)
      ∙ rw (take-append-drop at old))

  -- and so is what stands after them
  from_entry_after : (n : ℕ) → at + length new ≤ n → drop n (from_entry at new old) ≡ drop n old
  unfolding from_entry
  from_entry_after n h =
      let front = take at old ++ new in
      let long : length front ≡ at + length new = rw (length-append, length-take-le at old (omega arith)) in
      let k = n - (at + length new) in
      let rest : length front + k ≡ n = omega (arith, long) in
      let past : at + (length new + k) ≡ n = omega arith in
      rw rest at (drop-append-add front (drop (length new) (drop at old)) k)
      ∙ drop-drop k (length new) (drop at old)
      ∙ drop-drop (length new + k) at old
      ∙ rw past

  -- the new entries begin there
  from_entry_here : drop at (from_entry at new old) ≡ new ++ drop (length new) (drop at old)
  unfolding from_entry
  from_entry_here = rw append_assoc (drop_at (take at old) _ at (length-take-le at old (omega arith)))

-- entry i is the first of those from i on
first_from : (x : List ℕ) (i : ℕ) → get_or (drop i x) 0 0 ≡ get_or x i 0
first_from x i = get_or-drop i x 0 0 ∙ rw add-zero

-- a rule, from what stands from its slot's first byte on
abbrev rule_in : (s : List ℕ) → Rule
rule_in s = record { pattern = take (get_or s 0 0) (drop 2 s); hold_offset = get_or s 1 0 }

rule_in_slot : (x : List ℕ) (i : ℕ) → rule_at x i ≡ rule_in (drop (slot i) x)
rule_in_slot x i =
    let one : slot i + 1 ≡ 130 * i + 2 = omega arith in
    let two : slot i + 2 ≡ 130 * i + 3 = omega arith in
    simp (get_or-drop, drop-drop, add-zero, one, two)

-- of which the slot's 130 bytes are enough
slot_enough : (s : List ℕ) → get_or s 0 0 ≤ longest_pattern → rule_in (take 130 s) ≡ rule_in s
slot_enough [] h = refl
slot_enough (m ∷ []) h = refl
slot_enough (m ∷ q ∷ w) h = rw (take-take m 128 w h)

-- two tables whose slot i holds the same
module _ (x x' : List ℕ) (i : ℕ) (e : take 130 (drop (slot i) x') ≡ take 130 (drop (slot i) x)) where
  same_length : length_at x' i ≡ length_at x i
  same_length =
      sym (first_from x' (slot i))
      ∙ sym (get_or-take 130 (drop (slot i) x') 0 0 (omega arith))
      ∙ rw e (get_or-take 130 (drop (slot i) x) 0 0 (omega arith))
      ∙ first_from x (slot i)

  same_rule : length_at x i ≤ longest_pattern → rule_at x' i ≡ rule_at x i
  same_rule h =
      rule_in_slot x' i
      ∙ sym (slot_enough (drop (slot i) x') (rw (first_from x' (slot i), same_length) h))
      ∙ ap rule_in e
      ∙ slot_enough (drop (slot i) x) (rw (first_from x (slot i)) h)
      ∙ sym (rule_in_slot x i)

-- two tables with the same rules in k slots
rules_same :
    (x x' : List ℕ) (k i : ℕ) → ((j : ℕ) → i ≤ j → j < i + k → rule_at x' j ≡ rule_at x j) →
    rules_from x' k i ≡ rules_from x k i
unfolding rules_from
rules_same x x' zero i h = refl
rules_same x x' (suc k) i h =
    rw (h i (omega arith) (omega arith), rules_same x x' k (suc i) (λ j l u. h j (omega arith) (omega arith)))

-- and with the same ones but for the rule in one
rules_set :
    (x x' : List ℕ) (r : Rule) (k i j : ℕ) → j < k → rule_at x' (i + j) ≡ r →
    ((l : ℕ) → i ≤ l → l < i + k → (l ≡ i + j → ⊥) → rule_at x' l ≡ rule_at x l) →
    rules_from x' k i ≡ set (rules_from x k i) j r
unfolding rules_from
rules_set x x' r zero i j l e h = absurd (omega arith)
rules_set x x' r (suc k) i zero l e h =
    rw (rw add-zero at e, rules_same x x' k (suc i) (λ j l u. h j (omega arith) (omega arith) (λ y. omega arith)))
rules_set x x' r (suc k) i (suc j) l e h =
    let next : suc i + j ≡ i + suc j = omega arith in
    let later =
    rules_set x x' r k (suc i) j (omega arith) (rw next e)
    (λ l a b ne. h l (omega arith) (omega arith) (λ y. ne (omega arith))) in
    rw (h i (omega arith) (omega arith) (λ y. omega arith), later)

-- an edit that is taken
module _ (number q : ℕ) (w x : List ℕ) (t : EditTaken x number (length w) q) where
  -- the table afterwards
  abbrev after : List ℕ
  after = edited x number q w

  -- what is written, and where
  abbrev new : List ℕ
  new = length w ∷ q ∷ w

  abbrev at : ℕ
  at = slot (number - 1)

  room : at + length new ≤ length x
  room = omega (arith, t.table.size, t.rule.few, t.rule.inside, t.pattern)

  -- the size stays, every byte outside what is written, and so the number of rules
  pub edited_size : length after ≡ table_size
  unfolding edited
  edited_size = from_entry_length at new x room ∙ t.table.size

  -- what stands before the slot is kept
  pub kept_before : (i : ℕ) → i < at → get_or after i 0 ≡ get_or x i 0
  unfolding edited
  kept_before i l =
      sym (get_or-take at after i 0 l) ∙ rw (from_entry_before at new x room 0 at (omega arith)) (get_or-take at x i 0 l)

  -- and so is what stands past the new pattern
  pub kept_after : (i : ℕ) → at + 2 + length w ≤ i → get_or after i 0 ≡ get_or x i 0
  unfolding edited
  kept_after i l = sym (first_from after i) ∙ rw (from_entry_after at new x room i (omega arith)) (first_from x i)

  -- the table has as many rules
  pub edited_count : count_of after ≡ count_of x
  edited_count = kept_before 0 (omega arith)

  -- the rule of that number is the new one
  edited_length : length_at after (number - 1) ≡ length w
  unfolding edited
  edited_length = sym (first_from after at) ∙ rw (from_entry_here at new x room)

  -- the rule of this number is the new one
  pub edited_here : rule_at after (number - 1) ≡ record { pattern = w; hold_offset = q }
  unfolding edited
  edited_here =
      rule_in_slot after (number - 1)
      ∙ rw (from_entry_here at new x room, take_at w (drop (length new) (drop at x)) (length w) refl)

  -- and the others are as they were
  slot_kept : (i : ℕ) → (i ≡ number - 1 → ⊥) → take 130 (drop (slot i) after) ≡ take 130 (drop (slot i) x)
  unfolding edited
  slot_kept i ne =
      ⊎_elim
      (λ (l : number - 1 ≤ i). rw (from_entry_after at new x room (slot i) (omega (arith, t.pattern))))
      (λ (l : i < number - 1). from_entry_before at new x room (slot i) 130 (omega arith))
      (le_or_lt (number - 1) i)

  -- every other rule is as it was
  pub edited_other : (i : ℕ) → i < count_of x → (i ≡ number - 1 → ⊥) → rule_at after i ≡ rule_at x i
  edited_other i inside ne = same_rule x after i (slot_kept i ne) (t.table.lengths i inside)

  -- so the rules of the table are those before with the new one in its place
  pub edited_rules : rules_of after ≡ set (rules_of x) (number - 1) (record { pattern = w; hold_offset = q })
  unfolding rules_of
  edited_rules =
      let inside = t.rule.inside in
      rw edited_count
      (rules_set x after _ (count_of x) 0 (number - 1) (omega (arith, t.rule.some)) (rw zero-add edited_here)
      (λ i l u ne. edited_other i (omega arith) (rw zero-add at ne)))

  -- the edited table is taken
  slot_taken : (i : ℕ) → i < count_of after → SlotTaken after i
  slot_taken i l =
      let inside : i < count_of x = rw edited_count at l in
      let offset : Rule → ℕ = λ r. r.hold_offset in
      ⊎_elim
      (λ (y : i ≡ number - 1). rw (y, edited_length, ap offset edited_here) (t.pattern, t.hold_offset))
      (λ ne.
      rw (same_length x after i (slot_kept i ne), ap offset (edited_other i inside ne))
      (t.table.lengths i inside, t.table.offsets i inside))
      (eq_or_ne i (number - 1))

  -- and the table is still taken
  pub edited_taken : TableTaken after
  edited_taken = record {
    size = edited_size;
    few = rw edited_count t.table.few;
    lengths = λ i l. (slot_taken i l).0;
    offsets = λ i l. (slot_taken i l).1;
  }
