-- The statuses of the five calls without roles are below 13. By the numbers of their conditions, of
-- which each list is put together.
use mathlib.Core.List.{List, [], ◌∷◌, ◌++◌}
use mathlib.Core.Logic.{⊎_elim}
use Prim.Native.Nat.{ℕ, zero, suc, ◌<◌}
use native.Mathlib.Omega.{arith}
use lib.ListN.{length}
use Rattle.answers.specs.Refusals.{Refusal, first_of, rule_refusals}
use Rattle.tables.proofs.Cases.{true_or_false}
use Rattle.tables.specs.declared.TableLengths.{TableLengths}
use Rattle.rules.specs.Rules.{count_of, slot_refusals, table_refusals, named_refusals}
use Rattle.edit_rule.specs.Edit.{edit_refusals, edit_status}
use Rattle.rules_status.specs.Measured.{search_refusals}
use Rattle.search_rules.specs.SearchRules.{search_rules_status}
use Rattle.convert_rules.specs.ConvertRules.{convert_rules_status}
use Rattle.restore_rules.specs.RestoreRules.{measured, restore_rules_status}
use Rattle.explain_rule.specs.ExplainRule.{explain_rule_status}

-- each condition has a number below 13
abbrev Below : List Refusal → Type 0
Below [] = Unit {0}
Below (r ∷ rs) = (r.number < 13) × Below rs

-- so the first that holds has one
first_below : (rs : List Refusal) → Below rs → first_of rs < 13
unfolding first_of
first_below [] h = omega arith
first_below (r ∷ rs) h = ⊎_elim (λ e. rw e h.0) (λ e. rw e (first_below rs h.1)) (true_or_false r.holds)

-- two lists one after the other
below_both : (rs ss : List Refusal) → Below rs → Below ss → Below (rs ++ ss)
below_both [] ss h k = k
below_both (r ∷ rs) ss h k = (h.0, below_both rs ss h.1 k)

-- 4 and 5 of each rule
below_slots : (x : List ℕ) (k i : ℕ) → Below (slot_refusals x k i)
unfolding slot_refusals
below_slots x zero i = tt
below_slots x (suc k) i = (omega arith, (omega arith, below_slots x k (suc i)))

-- 11, 4 and 5 of a table
below_table : (x : List ℕ) → Below (table_refusals x)
unfolding table_refusals
below_table x = (omega arith, below_slots x (count_of x) 0)

-- and of a number
below_named : (x : List ℕ) (number : ℕ) → Below (named_refusals x number)
unfolding named_refusals
below_named x number = (omega arith, (omega arith, below_slots x (count_of x) 0))

-- converting, by its own conditions
pub convert_below : (x t : List ℕ) (l : TableLengths) (found frames : ℕ) → convert_rules_status x t l found frames < 13
unfolding convert_rules_status search_refusals
convert_below x t l found frames = first_below _ (below_both (table_refusals x) _ (below_table x) (omega arith))

-- putting back
pub restore_below : (x gs : List ℕ) (text : ℕ) → restore_rules_status x gs text < 13
unfolding restore_rules_status measured
restore_below x gs text =
    first_below _
    (below_both (measured x (length gs) text) _ (below_both (table_refusals x) _ (below_table x) (omega arith))
    (omega arith))

-- explaining
pub explain_below : (x : List ℕ) (number n b : ℕ) (l : TableLengths) → explain_rule_status x number n b l < 13
unfolding explain_rule_status
explain_below x number n b l =
    first_below _ (below_both (named_refusals x number) _ (below_named x number) (omega arith))

-- pricing, whose conditions are those of searching
pub price_below : (x t : List ℕ) (l : TableLengths) (found : ℕ) → search_rules_status x t l found < 13
unfolding search_rules_status search_refusals
price_below x t l found = first_below _ (below_both (table_refusals x) _ (below_table x) (omega arith))

-- editing
pub edit_below : (x : List ℕ) (number m q : ℕ) → edit_status x number m q < 13
unfolding edit_status edit_refusals
edit_below x number m q =
    first_below _ (below_both (named_refusals x number) (rule_refusals m q) (below_named x number) (omega arith))
