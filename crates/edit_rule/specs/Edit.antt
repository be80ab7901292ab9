-- What an edit of a rule table answers and leaves in the table (document 02, "A rule table"). These
-- are definitions.
use Rattle.std.specs.Prelude.{List, ◌∷◌, ◌++◌, ◌≡◌, ℕ, ◌-◌, length}
use Rattle.answers.specs.Answers.{status_only, if_done}
use Rattle.answers.specs.Buffers.{from_entry}
use Rattle.answers.specs.Refusals.{Refusal, first_of, rule_refusals}
use Rattle.answers.specs.declared.Answer.{Answer}
use Rattle.rules.specs.Rules.{slot, named_refusals}

-- 11, 4 and 5 of the table and the number, then 4 and 5 of the new rule, of length m and hold
-- offset (hold place) q
unfoldable pub edit_refusals : (image : List ℕ) → (number m q : ℕ) → List Refusal
edit_refusals x number m q = named_refusals x number ++ rule_refusals m q

-- the status of an edit
unfoldable pub edit_status : (image : List ℕ) → (number m q : ℕ) → ℕ
edit_status x number m q = first_of (edit_refusals x number m q)

-- the table with a new rule in a numbered slot, whose bytes past the pattern (motif) are kept
unfoldable pub edited : (image : List ℕ) → (number q : ℕ) → (pattern : List ℕ) → List ℕ
edited x number q w = from_entry (slot (number - 1)) (length w ∷ q ∷ w) x

-- what `edit_rule` answers and leaves, of status s: x is the table at entry, x' at exit
pub record EditOutcomeOf (s number q : ℕ) (w x x' : List ℕ) (r : Answer) : Type 0 where
  pub answer : r ≡ status_only s
  pub table_left : x' ≡ if_done s (edited x number q w) x

-- of the status that its conditions give
abbrev pub EditOutcome : (number q : ℕ) (w x x' : List ℕ) (r : Answer) → Type 0
EditOutcome number q w x x' r = EditOutcomeOf (edit_status x number (length w) q) number q w x x' r
