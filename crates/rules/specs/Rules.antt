-- The rule table (document 02, "A rule table") as 2,081 bytes: the number of rules, then 16 slots
-- of 130 bytes, each a rule's length m, its hold offset (hold place) q and room for the 128 bytes
-- (cards) of its pattern (motif). Rule k stands in slot k - 1. These are definitions.
use Rattle.std.specs.Prelude.{◌||◌, List, [], ◌∷◌, ◌++◌, ◌≡◌, ℕ, zero, suc, ◌+◌, ◌*◌, ◌≤◌, ◌<◌, ltb, eqb, length, get_or, take, drop}
use Rattle.answers.specs.Refusals.{Refusal, refuse, longest_pattern, rule_refusals}

-- a rule: a pattern and a hold offset
pub record Rule : Type 0 where
  pub pattern : List ℕ
  pub hold_offset : ℕ

-- the byte (card) of its pattern that it holds
unfoldable pub held : Rule → ℕ
held r = get_or r.pattern r.hold_offset 0

-- rule i of a list, counted from 0; past the last, one that has no pattern
abbrev pub rule_of : (rs : List Rule) → (i : ℕ) → Rule
rule_of rs i = get_or rs i (record { pattern = []; hold_offset = 0 })

-- each rule has a pattern that is not empty
unfoldable pub Patterned : List Rule → Type 0
Patterned [] = Unit {0}
Patterned (r ∷ rs) = (1 ≤ length r.pattern) × Patterned rs

-- each rule's hold offset is in its pattern
unfoldable pub Inside : List Rule → Type 0
Inside [] = Unit {0}
Inside (r ∷ rs) = (r.hold_offset < length r.pattern) × Inside rs

-- the most rules of a table
abbrev pub most_rules : ℕ
most_rules = 16

-- the bytes of a table
abbrev pub table_size : ℕ
table_size = 2081

-- the number of rules
abbrev pub count_of : (image : List ℕ) → ℕ
count_of x = get_or x 0 0

-- slot i is the 130 bytes from this one on
abbrev pub slot : (i : ℕ) → ℕ
slot i = 130 * i + 1

-- its first byte is the rule's length
abbrev pub length_at : (image : List ℕ) → (i : ℕ) → ℕ
length_at x i = get_or x (130 * i + 1) 0

-- its second byte is the hold offset
abbrev pub offset_at : (image : List ℕ) → (i : ℕ) → ℕ
offset_at x i = get_or x (130 * i + 2) 0

-- as many of the others as the length says are the pattern
abbrev pub rule_at : (image : List ℕ) → (i : ℕ) → Rule
rule_at x i =
    record { pattern = take (length_at x i) (drop (130 * i + 3) x); hold_offset = offset_at x i }

-- the k rules from slot i on
unfoldable pub rules_from : (image : List ℕ) → (k i : ℕ) → List Rule
rules_from x zero i = []
rules_from x (suc k) i = rule_at x i ∷ rules_from x k (suc i)

-- the rules of a table, rule 1 first
unfoldable pub rules_of : (image : List ℕ) → List Rule
rules_of x = rules_from x (count_of x) 0

-- 11: no rules or more than 16
abbrev pub count_refusal : (count : ℕ) → Refusal
count_refusal k = refuse 11 (eqb k 0 || ltb most_rules k)

-- 11: a number that is no rule of the table
abbrev pub number_refusal : (count number : ℕ) → Refusal
number_refusal k number = refuse 11 (eqb number 0 || ltb k number)

-- 4 and then 5 for each of the k rules from slot i on
unfoldable pub slot_refusals : (image : List ℕ) → (k i : ℕ) → List Refusal
slot_refusals x zero i = []
slot_refusals x (suc k) i = rule_refusals (length_at x i) (offset_at x i) ++ slot_refusals x k (suc i)

-- what whoever edits a table can cause, in its order
unfoldable pub table_refusals : (image : List ℕ) → List Refusal
table_refusals x = count_refusal (count_of x) ∷ slot_refusals x (count_of x) 0

-- the same of a call that names a rule by its number
unfoldable pub named_refusals : (image : List ℕ) → (number : ℕ) → List Refusal
named_refusals x number =
    count_refusal (count_of x) ∷ number_refusal (count_of x) number ∷ slot_refusals x (count_of x) 0

-- a table of at most 16 rules, each of at most 128 bytes with its hold offset in it, as are those
-- that 11, 4 and 5 let pass
pub record TableTaken (image : List ℕ) : Type 0 where
  pub size : length image ≡ table_size
  pub few : count_of image ≤ most_rules
  pub lengths : (i : ℕ) → i < count_of image → length_at image i ≤ longest_pattern
  pub offsets : (i : ℕ) → i < count_of image → offset_at image i < length_at image i
