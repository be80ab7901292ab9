-- What searching with a table of rules answers and leaves in its buffers (document 02, "A rule
-- table"). These are definitions.
use Rattle.std.specs.Prelude.{List, [], ◌∷◌, ◌≡◌, ℕ, length}
use Rattle.answers.specs.Answers.{if_done}
use Rattle.answers.specs.Buffers.{in_front}
use Rattle.answers.specs.Refusals.{first_of, buffer_refusal}
use Rattle.tables.specs.Buffers.{Tables, lengths}
use Rattle.tables.specs.declared.TableLengths.{TableLengths}
use Rattle.rules.specs.Buffers.{one_after_another, all_tables_left}
use Rattle.rules.specs.Rules.{Rule, rules_of}
use Rattle.rules_answers.specs.Answers.{rules_done, rules_answered}
use Rattle.rules_answers.specs.declared.RulesAnswer.{RulesAnswer}
use Rattle.rules_claims.specs.Claims.{found_of}
use Rattle.rules_status.specs.Measured.{search_refusals}

-- the status of searching: 11, 4 and 5 of each rule, 6, 7, 12; n entries are needed for occurrences
-- (finds)
unfoldable pub search_rules_status : (image t : List ℕ) → TableLengths → (found_len : ℕ) → ℕ
search_rules_status x t l f = first_of (search_refusals x t l (buffer_refusal f (length t) ∷ []))

-- the occurrences of all rules, one rule's after another's, in their buffer after a call of this
-- status
unfoldable pub all_found_left : (status : ℕ) → List Rule → (t found : List ℕ) → List ℕ
all_found_left s rs t found = if_done s (in_front (one_after_another (found_of t) rs) found) found

-- what `search_rules` answers and leaves, of status s, by the rules of its table: lent and left are
-- the tables' buffers at entry and at exit, found' is found at exit
pub record SearchRulesOutcomeOf
    (s : ℕ) (rs : List Rule) (t : List ℕ) (lent left : Tables) (found found' : List ℕ) (r : RulesAnswer) : Type 0 where
  pub answer : r ≡ rules_answered s (rules_done rs t 0)
  pub tables : left ≡ all_tables_left s rs lent
  pub occurrences_left : found' ≡ all_found_left s rs t found

-- the status of a search of t with a table and these buffers
abbrev pub search_rules_status_of : (image t : List ℕ) (lent : Tables) (found : List ℕ) → ℕ
search_rules_status_of x t lent found = search_rules_status x t (lengths lent) (length found)

-- what `search_rules` answers and leaves, of the status that its conditions give
abbrev pub SearchRulesOutcome :
    (image t : List ℕ) (lent left : Tables) (found found' : List ℕ) (r : RulesAnswer) → Type 0
SearchRulesOutcome x t lent left found found' r =
    SearchRulesOutcomeOf (search_rules_status_of x t lent found) (rules_of x) t lent left found found' r
