-- The rules of a table as a list: how many, which stands where, how long their patterns are, and
-- what they hold. By induction on the number of rules, and by what a part of a list has.
use mathlib.Core.List.{List}
use mathlib.Core.Path.{◌≡◌, refl, sym, ◌∙◌}
use Prim.Native.Nat.{ℕ, zero, suc, ◌+◌, ◌*◌, ◌≤◌, ◌<◌}
use native.Mathlib.Nat.{add-zero, zero-add}
use native.Mathlib.Omega.{arith}
use lib.ListN.{length, get_or, drop, length-take, length-drop}
use lib.Seq.{get_or-take, get_or-drop}
use Rattle.answers.specs.Refusals.{longest_pattern}
use Rattle.rules.specs.Rules.{Rule, most_rules, table_size, count_of, length_at, offset_at, rule_at, held}
use Rattle.rules.specs.Rules.{rules_from, rules_of}

-- the k rules from slot i on are k, and the one at j is that in slot i + j
from_length : (x : List ℕ) (k i : ℕ) → length (rules_from x k i) ≡ k
unfolding rules_from
from_length x zero i = refl
from_length x (suc k) i = rw (from_length x k (suc i))

-- the rules from slot i on, one by one
from_entry_at : (x : List ℕ) (k i j : ℕ) (d : Rule) → j < k → get_or (rules_from x k i) j d ≡ rule_at x (i + j)
unfolding rules_from
from_entry_at x zero i j d l = absurd (omega arith)
from_entry_at x (suc k) i zero d l = rw add-zero
from_entry_at x (suc k) i (suc j) d l =
    let next : i + suc j ≡ suc i + j = omega arith in
    rw next (from_entry_at x k (suc i) j d (omega arith))

module _ (x : List ℕ) where
  -- a table has as many rules as its first byte says
  pub rules_counted : length (rules_of x) ≡ count_of x
  unfolding rules_of
  rules_counted = from_length x (count_of x) 0

  -- and rule i of them is that in slot i
  pub rule_listed : (i : ℕ) (d : Rule) → i < count_of x → get_or (rules_of x) i d ≡ rule_at x i
  unfolding rules_of
  rule_listed i d l = rw zero-add at (from_entry_at x (count_of x) 0 i d l)

  -- the pattern of a rule that is not refused by 4 is as long as its length says
  pub pattern_length :
      length x ≡ table_size → (i : ℕ) → i < most_rules → length_at x i ≤ longest_pattern →
      length (rule_at x i).pattern ≡ length_at x i
  pattern_length size i l h = simp (length-take, length-drop) (omega arith)

  -- the byte that it holds stands in the table
  pub held_stands :
      (i : ℕ) → offset_at x i < length_at x i → get_or x (130 * i + 3 + offset_at x i) 0 ≡ held (rule_at x i)
  unfolding held
  held_stands i l =
      let from = 130 * i + 3 in
      sym (get_or-take (length_at x i) (drop from x) (offset_at x i) 0 l ∙ get_or-drop from x (offset_at x i) 0)
