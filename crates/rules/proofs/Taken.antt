-- A table that is taken: each hold offset of its rules is inside its pattern, so that no pattern is
-- empty, and 11, 4 and 5 are not given. By induction on the rules and on the slots.
use mathlib.Core.List.{List, [], ◌∷◌}
use mathlib.Core.Path.{◌≡◌}
use Prim.Native.Nat.{ℕ, zero, suc, ◌+◌, ◌≤◌, ◌<◌}
use native.Mathlib.Omega.{arith}
use borrow.Author.Tests.{le-ltb, ne_eqb}
use lib.ListN.{length}
use Rattle.answers.proofs.Refusals.{none_done, limits_none}
use Rattle.answers.specs.Promises.{NoneHolds}
use Rattle.answers.specs.Refusals.{first_of, WithinLimits}
use Rattle.rules.proofs.Listed.{rules_counted, rule_listed, pattern_length}
use Rattle.rules.proofs.Tested.{SlotTaken}
use Rattle.rules.specs.Rules.{Rule, rule_of, Patterned, Inside, most_rules, count_of, length_at, offset_at}
use Rattle.rules.specs.Rules.{rules_of, slot_refusals, table_refusals, TableTaken}

-- the hold offset of a rule is in its pattern
abbrev RuleInside : Rule → Type 0
RuleInside r = r.hold_offset < length r.pattern

-- what `Inside` says of each rule, and `Patterned` below
pub inside_each : (rs : List Rule) → Inside rs → (i : ℕ) → i < length rs → RuleInside (rule_of rs i)
unfolding Inside
inside_each [] h i l = absurd (omega arith)
inside_each (r ∷ rs) h zero l = h.0
inside_each (r ∷ rs) h (suc i) l = inside_each rs h.1 i (omega arith)

pub each_inside : (rs : List Rule) → ((i : ℕ) → i < length rs → RuleInside (rule_of rs i)) → Inside rs
unfolding Inside
each_inside [] h = tt
each_inside (r ∷ rs) h = (h 0 (omega arith), each_inside rs (λ i l. h (suc i) (omega arith)))

pub patterned_each : (rs : List Rule) → Patterned rs → (i : ℕ) → i < length rs → 1 ≤ length (rule_of rs i).pattern
unfolding Patterned
patterned_each [] h i l = absurd (omega arith)
patterned_each (r ∷ rs) h zero l = h.0
patterned_each (r ∷ rs) h (suc i) l = patterned_each rs h.1 i (omega arith)

pub each_patterned : (rs : List Rule) → ((i : ℕ) → i < length rs → 1 ≤ length (rule_of rs i).pattern) → Patterned rs
unfolding Patterned
each_patterned [] h = tt
each_patterned (r ∷ rs) h = (h 0 (omega arith), each_patterned rs (λ i l. h (suc i) (omega arith)))

-- a pattern that has a hold offset inside is not empty
pub inside_patterned : (rs : List Rule) → Inside rs → Patterned rs
unfolding Inside Patterned
inside_patterned [] h = tt
inside_patterned (r ∷ rs) h = (omega (arith, h.0), inside_patterned rs h.1)

-- none of 4 and 5 holds of slots that are taken
slots_none :
    (x : List ℕ) (k i : ℕ) → ((j : ℕ) → i ≤ j → j < i + k → SlotTaken x j) → NoneHolds (slot_refusals x k i)
unfolding slot_refusals
slots_none x zero i h = tt
slots_none x (suc k) i h =
    let (short, inside) = h i (omega arith) (omega arith) in
    let limits : WithinLimits (length_at x i) (offset_at x i) 0
    = record { hold_offset = inside; pattern = short; text = omega arith } in
    let none = limits_none (length_at x i) (offset_at x i) 0 {Rest = Unit {0}} limits tt in
    (none.0, (none.1.0, slots_none x k (suc i) (λ j l u. h j (omega arith) (omega arith))))

module _ (x : List ℕ) (t : TableTaken x) where
  -- the rules of a table that is taken are inside, and have patterns
  pub table_inside : Inside (rules_of x)
  table_inside =
      each_inside (rules_of x)
      (λ i l.
      let inside : i < count_of x = rw rules_counted at l in
      let long = pattern_length x t.size i (omega (arith, t.few)) (t.lengths i inside) in
      rw (rule_listed x i _ inside, long) (t.offsets i inside))

  pub table_patterned : Patterned (rules_of x)
  table_patterned = inside_patterned (rules_of x) table_inside

  -- a table that is taken and has rules is not refused
  pub taken_refusals : 1 ≤ count_of x → first_of (table_refusals x) ≡ 0
  unfolding table_refusals
  taken_refusals some =
      none_done (table_refusals x) (
        rw (ne_eqb (count_of x) 0 (λ e. omega arith)) (le-ltb most_rules (count_of x) t.few),
        slots_none x (count_of x) 0 (λ i l u. (t.lengths i (omega arith), t.offsets i (omega arith))),
      )
