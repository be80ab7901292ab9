-- A table and a table turned: as many rules, each turned, for which the same is needed, and which
-- are refused alike by 4 and 5 where each hold offset is in its pattern. By induction on the rules
-- and on the slots.
use mathlib.Core.List.{List, [], ◌∷◌}
use mathlib.Core.Path.{◌≡◌, refl, sym, ◌∙◌, ap}
use Prim.Native.Nat.{ℕ, zero, suc, ◌+◌, ◌*◌, ◌≤◌, ◌<◌}
use native.Mathlib.Omega.{arith}
use borrow.Author.Tests.{lt-leb}
use lib.ListN.{length, length-map, length-take}
use Rattle.answers.proofs.Bytes.{bytes_part}
use Rattle.answers.specs.Bytes.{Bytes}
use Rattle.tables.specs.declared.TableLengths.{TableLengths}
use Rattle.turn.proofs.Turned.{index_inside, length_turned}
use Rattle.rules.proofs.Listed.{rules_counted, rule_listed}
use Rattle.rules.proofs.Taken.{inside_each}
use Rattle.rules.specs.Buffers.{sum_over, needed_for, tables_refusal}
use Rattle.rules.specs.Rules.{Rule, rule_of, Inside, count_of, length_at, offset_at, rule_at, rules_from, rules_of}
use Rattle.rules.specs.Rules.{slot_refusals, table_refusals}
use Rattle.rules_turn_laws.specs.Calls.{TableTurned}
use Rattle.rules_turn_laws.specs.Promises.{turned_rule, turned_rules, BytesEach}

-- rule i turned is rule i of the rules turned
rule_turned :
    (way : ℕ) (rs : List Rule) (i : ℕ) → i < length rs →
    rule_of (turned_rules way rs) i ≡ turned_rule way (rule_of rs i)
unfolding turned_rules
rule_turned way [] i l = absurd (omega arith)
rule_turned way (r ∷ rs) zero l = refl
rule_turned way (r ∷ rs) (suc i) l = rule_turned way rs i (omega arith)

-- the rules of a table of bytes are of bytes
from_bytes : (x : List ℕ) → Bytes x → (k i : ℕ) → BytesEach (rules_from x k i)
unfolding rules_from BytesEach
from_bytes x h zero i = tt
from_bytes x h (suc k) i = (bytes_part x h (130 * i + 3) (length_at x i), from_bytes x h k (suc i))

pub rules_bytes : (x : List ℕ) → Bytes x → BytesEach (rules_of x)
unfolding rules_of
rules_bytes x h = from_bytes x h (count_of x) 0

-- so is the pattern of each, by its number
pub bytes_of : (rs : List Rule) → BytesEach rs → (i : ℕ) → i < length rs → Bytes (rule_of rs i).pattern
unfolding BytesEach
bytes_of [] h i l = absurd (omega arith)
bytes_of (r ∷ rs) h zero l = h.0
bytes_of (r ∷ rs) h (suc i) l = bytes_of rs h.1 i (omega arith)

-- what goes by the lengths of the patterns is summed up alike
sum_turned :
    (f : Rule → ℕ) (way : ℕ) (rs : List Rule) → ((r : Rule) → f (turned_rule way r) ≡ f r) →
    sum_over f (turned_rules way rs) ≡ sum_over f rs
unfolding turned_rules sum_over
sum_turned f way [] same = refl
sum_turned f way (r ∷ rs) same = rw (same r, sum_turned f way rs same)

-- so as much is needed for the tables; as much for Δ2 as for the order
pub needed_turned :
    (way : ℕ) (rs : List Rule) (l : TableLengths) → tables_refusal (turned_rules way rs) l ≡ tables_refusal rs l
unfolding turned_rule
needed_turned way rs l =
    rw (
      sum_turned (λ r. (needed_for r).order) way rs (λ r. rw length_turned),
      sum_turned (λ r. (needed_for r).delta1) way rs (λ r. rw length_turned),
      sum_turned (λ r. (needed_for r).delta3) way rs (λ r. rw length_turned),
    )

-- a slot of two tables with the same length, and with hold offsets below it
record SlotsInside (x x' : List ℕ) (i : ℕ) : Type 0 where
  same : length_at x' i ≡ length_at x i
  inside : offset_at x i < length_at x i
  inside' : offset_at x' i < length_at x i

-- such slots are refused alike
slots_alike :
    (x x' : List ℕ) (k i : ℕ) → ((j : ℕ) → j < i + k → SlotsInside x x' j) → slot_refusals x' k i ≡ slot_refusals x k i
unfolding slot_refusals
slots_alike x x' zero i h = refl
slots_alike x x' (suc k) i h =
    let here = h i (omega arith) in
    rw (
      here.same,
      lt-leb (length_at x i) (offset_at x i) here.inside,
      lt-leb (length_at x i) (offset_at x' i) here.inside',
      slots_alike x x' k (suc i) (λ j l. h j (omega arith)),
    )

module _ {way : ℕ} {x x' : List ℕ} (v : TableTurned way x x') where
  -- as many rules
  pub same_count : count_of x' ≡ count_of x
  unfolding turned_rules
  same_count =
      sym (rules_counted x') ∙ ap length v.rules ∙ length-map (rules_of x) (turned_rule way) ∙ rules_counted x

  module _ (i : ℕ) (l : i < count_of x) where
    -- each turned
    pub nth_turned : rule_of (rules_of x') i ≡ turned_rule way (rule_of (rules_of x) i)
    nth_turned = rw v.rules (rule_turned way (rules_of x) i (rw rules_counted l))

    -- and its slot as long
    slots_inside : Inside (rules_of x) → SlotsInside x x' i
    unfolding turned_rule
    slots_inside h =
        let r = rule_at x i in
        let m = length r.pattern in
        let short : m ≤ length_at x i = simp length-take (omega arith) in
        let within : i < length (rules_of x) = rw rules_counted l in
        let inside : r.hold_offset < m = rw (rule_listed x i _ l) at (inside_each (rules_of x) h i within) in
        let there : rule_at x' i ≡ turned_rule way r =
        rw (rule_listed x' i _ (rw same_count l), rule_listed x i _ l) at nth_turned in
        let moved = ap (λ (r : Rule). r.hold_offset) there in
        record {
          same = v.lengths i l;
          inside = omega arith;
          inside' = omega (arith, moved, index_inside way m r.hold_offset inside);
        }

  -- 11, 4 and 5 are alike
  pub refusals_alike : Inside (rules_of x) → table_refusals x' ≡ table_refusals x
  unfolding table_refusals
  refusals_alike h =
      rw (same_count, slots_alike x x' (count_of x) 0 (λ j l. slots_inside j (omega arith) h))
