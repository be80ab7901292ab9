-- What is promised of an edit (document 02, "A rule table"): the new rule stands in its place,
-- every other is as it was, and the table is taken; and which statuses it has. Each is a type, and
-- its proof is in proofs/. These are definitions.
use Rattle.std.specs.Prelude.{List, ◌⊎◌, ◌≡◌, ℕ, ◌+◌, ◌-◌, ◌≤◌, ◌<◌, length, get_or, set}
use Rattle.answers.specs.Bytes.{Bytes}
use Rattle.answers.specs.Refusals.{first_of}
use Rattle.answers.specs.declared.Answer.{Answer}
use Rattle.rules.specs.Rules.{table_size, count_of, slot, rule_at, rules_of, table_refusals}
use Rattle.edit_rule.specs.Edit.{EditOutcome}

-- an edit that is taken, of a table x, which is x' afterwards
pub record EditedRight (number q : ℕ) (w x x' : List ℕ) : Type 0 where
  -- the number is a rule's
  pub some : 1 ≤ number
  pub inside : number ≤ count_of x
  -- the table's size and the number of its rules stay
  pub size : length x' ≡ table_size
  pub count : count_of x' ≡ count_of x
  -- the new rule stands under its number, and every other rule is as it was
  pub here : rule_at x' (number - 1) ≡ record { pattern = w; hold_offset = q }
  pub others : (i : ℕ) → i < count_of x → (i ≡ number - 1 → ⊥) → rule_at x' i ≡ rule_at x i
  pub rules : rules_of x' ≡ set (rules_of x) (number - 1) (record { pattern = w; hold_offset = q })
  -- so is every byte past its pattern and outside its slot
  pub kept_before : (i : ℕ) → i < slot (number - 1) → get_or x' i 0 ≡ get_or x i 0
  pub kept_after : (i : ℕ) → slot (number - 1) + 2 + length w ≤ i → get_or x' i 0 ≡ get_or x i 0
  -- a table of bytes stays one, by a pattern of bytes
  pub bytes : Bytes x → Bytes w → Bytes x'
  -- every call takes it, as far as 11, 4 and 5 go
  pub taken : first_of (table_refusals x') ≡ 0

-- an edit that answers 0 is taken, and edits the table so
unfoldable pub EditsRight : Type 0
EditsRight =
    (number q : ℕ) (w x x' : List ℕ) (r : Answer) → length x ≡ table_size → EditOutcome number q w x x' r →
    r.status ≡ 0 → EditedRight number q w x x'

-- an edit is done, or refused by 4, 5 or 11, and by nothing else
unfoldable pub EditStatuses : Type 0
EditStatuses =
    (number q : ℕ) (w x x' : List ℕ) (r : Answer) → EditOutcome number q w x x' r →
    (r.status ≡ 0) ⊎ ((r.status ≡ 4) ⊎ ((r.status ≡ 5) ⊎ (r.status ≡ 11)))
