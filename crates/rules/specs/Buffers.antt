-- The caller's buffers (lent buffers) for the tables of all rules, one rule's after another's: how
-- long they have to be, and what is left in them (document 02, "A rule table"). These are
-- definitions.
use Rattle.std.specs.Prelude.{List, [], ◌∷◌, ◌++◌, ℕ, ◌+◌, ℤ, length}
use Rattle.answers.specs.Answers.{if_done}
use Rattle.answers.specs.Buffers.{in_front}
use Rattle.answers.specs.Refusals.{Refusal, refuse}
use Rattle.tables.specs.Buffers.{Tables, tables, needed, short_of}
use Rattle.tables.specs.Tables.{stored_order, stored_Δ2, stored_Δ1, stored_Δ3}
use Rattle.tables.specs.declared.TableLengths.{TableLengths}
use Rattle.rules.specs.Rules.{Rule}

module _ {X A : Type 0} (f : X → List A) where
  -- what f gives for each, one after another
  unfoldable pub one_after_another : List X → List A
  one_after_another [] = []
  one_after_another (x ∷ xs) = f x ++ one_after_another xs

-- what f gives for each rule, summed up
unfoldable pub sum_over : (f : Rule → ℕ) → List Rule → ℕ
sum_over f [] = 0
sum_over f (r ∷ rs) = f r + sum_over f rs

-- what one rule needs
abbrev pub needed_for : Rule → TableLengths
needed_for r = needed (length r.pattern)

-- needed for each table is the sum of the rules' sizes
abbrev pub all_needed : List Rule → TableLengths
all_needed rs =
    record {
      order = sum_over (λ r. (needed_for r).order) rs;
      delta2 = sum_over (λ r. (needed_for r).delta2) rs;
      delta1 = sum_over (λ r. (needed_for r).delta1) rs;
      delta3 = sum_over (λ r. (needed_for r).delta3) rs;
    }

-- 7, as far as the tables go
abbrev pub tables_refusal : List Rule → TableLengths → Refusal
tables_refusal rs l = refuse 7 (short_of (all_needed rs) l)

-- what a rule has in each buffer
abbrev pub order_of : Rule → List ℤ
order_of r = stored_order r.pattern

abbrev pub delta2_of : Rule → List ℕ
delta2_of r = stored_Δ2 r.pattern

abbrev pub delta1_of : Rule → List ℕ
delta1_of r = stored_Δ1 r.pattern

abbrev pub delta3_of : Rule → List ℕ
delta3_of r = stored_Δ3 r.pattern

-- the tables of all rules, one after another, in front of what the buffers held
abbrev pub with_all_tables : List Rule → (lent : Tables) → Tables
with_all_tables rs x =
    tables (in_front (one_after_another order_of rs) x.order) (in_front (one_after_another delta2_of rs) x.delta2)
    (in_front (one_after_another delta1_of rs) x.delta1) (in_front (one_after_another delta3_of rs) x.delta3)

-- what is left in the buffers by a call of this status that works the tables of all rules out
unfoldable pub all_tables_left : (status : ℕ) → List Rule → (lent : Tables) → Tables
all_tables_left s rs x = if_done s (with_all_tables rs x) x
