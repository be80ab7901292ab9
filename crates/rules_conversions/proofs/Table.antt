-- The rules of a table, slot by slot: the bytes that they hold, and whose holds are right.
-- By what the table's rules are in each slot, from one slot to the next.
use mathlib.Core.Bool.{true}
use mathlib.Core.List.{List, ◌∷◌, ◌++◌}
use mathlib.Core.Logic.{⊎_elim}
use mathlib.Core.Path.{◌≡◌, sym, ◌∙◌, ap}
use Prim.Native.Nat.{ℕ, suc, ◌+◌, ◌*◌, ◌≤◌, ◌<◌}
use native.Mathlib.Nat.{eq-or-lt_of_le, le_of_suc-le-suc}
use native.Mathlib.Numerals.{add-one}
use native.Mathlib.Omega.{arith}
use lib.ListN.{length, get_or, set, take, length-map, length-set}
use lib.Seq.{ext_get_or, take_at, get_or-set_same, get_or-set_other}
use Rattle.answers.proofs.Bytes.{bytes_entry, each_byte}
use Rattle.answers.specs.Bytes.{Bytes}
use Rattle.restore_conversions.specs.Walk.{rule_right}
use Rattle.rules.proofs.Listed.{rules_counted, rule_listed, held_stands}
use Rattle.rules.specs.Rules.{held, count_of, offset_at, rule_at, rules_of, TableTaken}
use Rattle.rules_frames.specs.RuleFrames.{hold_of}
use Rattle.tables.proofs.Cases.{eq_or_ne}
use Rattle.rules_conversions.proofs.Matched.{right_of}
use Rattle.rules_conversions.proofs.Restored.{held_entry}
use Rattle.rules_conversions.specs.Conversions.{all_held}

module _ (x : List ℕ) where
  pub held_counted : length (all_held (rules_of x)) ≡ count_of x
  held_counted = length-map (rules_of x) held ∙ rules_counted x

  pub held_listed : (j : ℕ) → j < count_of x → get_or (all_held (rules_of x)) j 0 ≡ held (rule_at x j)
  held_listed j l =
      held_entry (rules_of x) j (omega (arith, rules_counted x)) ∙ ap held (rule_listed x j _ l)

  -- each byte held by a table that is taken is one
  pub table_held : TableTaken x → Bytes x → Bytes (all_held (rules_of x))
  table_held t b =
      each_byte (all_held (rules_of x))
      (λ j l.
      let inside : j < count_of x = omega (arith, held_counted) in
      rw (held_listed j inside, ← held_stands x j (t.offsets j inside))
      (bytes_entry x b (130 * j + 3 + offset_at x j)))

  -- of a byte for each rule, the first i are the bytes that the rules hold
  pub record Held (bytes : List ℕ) (i : ℕ) : Type 0 where
    pub size : length bytes ≡ count_of x
    pub entry : (j : ℕ) → j < i → get_or bytes j 0 ≡ held (rule_at x j)

  pub none_held : {bytes : List ℕ} → length bytes ≡ count_of x → Held bytes 0
  none_held size = record { size = size; entry = λ j l. absurd (omega arith) }

  -- one rule more
  pub one_held :
      {bytes : List ℕ} {i b : ℕ} → Held bytes i → i < length bytes → b ≡ held (rule_at x i) → Held (set bytes i b) (i + 1)
  one_held {bytes} {i} {b} h l e = record {
    size = rw length-set h.size;
    entry = λ j m. ⊎_elim
        (λ (y : j ≡ i). rw (y, get_or-set_same bytes i b 0 l) e)
        (λ d. rw (get_or-set_other bytes i j b 0 d) (h.entry j (omega arith)))
        (eq_or_ne j i);
  }

  -- past the last one they are the bytes that the rules hold
  held_all : {bytes : List ℕ} {i : ℕ} → Held bytes i → count_of x ≤ i → bytes ≡ all_held (rules_of x)
  held_all {bytes} h past =
      ext_get_or 0 bytes (all_held (rules_of x)) (h.size ∙ sym held_counted)
      (λ j l. h.entry j (omega (arith, h.size)) ∙ sym (held_listed j (omega (arith, h.size))))

  -- and behind a 0 they are the entries up to the last rule's
  pub held_front :
      {bytes : List ℕ} {i : ℕ} → Held bytes i → count_of x ≤ i → (rest : List ℕ) →
      take (count_of x + 1) (0 ∷ (bytes ++ rest)) ≡ 0 ∷ all_held (rules_of x)
  held_front {bytes} h past rest =
      rw add-one (ap (λ bs. 0 ∷ bs) (take_at bytes rest (count_of x) h.size ∙ held_all h past))

  -- the holds of the first i rules are right
  module _ (gs : List ℕ) where
    pub record Right (i : ℕ) : Type 0 where
      pub each : (j : ℕ) → j < i → right_of (rules_of x) gs j ≡ true

    -- what the walk for the rule in slot i tells
    pub right_is :
        (i h q : ℕ) (w hs : List ℕ) → i < count_of x → h ≡ hold_of (suc i) → q ≡ offset_at x i →
        w ≡ (rule_at x i).pattern → hs ≡ all_held (rules_of x) →
        rule_right h q w hs gs ≡ right_of (rules_of x) gs i
    right_is i h q w hs l number offset pattern bytes = rw (number, offset, pattern, bytes, rule_listed x i _ l)

    -- before the first rule nothing is tested
    pub none_right : Right 0
    none_right = record { each = λ j l. absurd (omega arith) }

    -- a rule whose holds are right is passed
    pub right_next : {i : ℕ} → Right i → right_of (rules_of x) gs i ≡ true → Right (suc i)
    right_next {i} h e = record {
      each = λ j m. ⊎_elim (λ (y : j ≡ i). rw y e) (λ m. h.each j m) (eq-or-lt_of_le (le_of_suc-le-suc m));
    }
