-- What a search for each rule of a table takes where nothing is left to measure, and what it
-- leaves. These are definitions.
use Rattle.std.specs.Prelude.{false, List, ◌≡◌, ℕ, ◌≤◌, length}
use Rattle.answers.specs.Buffers.{in_front}
use Rattle.answers.specs.Refusals.{longest_text}
use Rattle.tables.specs.Buffers.{Tables, lengths, short_of}
use Rattle.rules.specs.Buffers.{one_after_another, all_needed, with_all_tables}
use Rattle.rules.specs.Rules.{rules_of}
use Rattle.rules_answers.specs.Answers.{all_told}
use Rattle.rules_answers.specs.declared.RuleAnswer.{RuleAnswer}
use Rattle.rules_claims.specs.Claims.{found_of}

-- the text is taken, and there is room for all tables and all occurrences (finds)
pub record RulesFit (x t : List ℕ) (lent : Tables) (found : List ℕ) : Type 0 where
  pub text : length t ≤ longest_text
  pub tables : short_of (all_needed (rules_of x)) (lengths lent) ≡ false
  pub room : length (one_after_another (found_of t) (rules_of x)) ≤ length found

-- each rule's answer, and its tables and occurrences after those of the rules before it
pub record RulesSearched
    (x t : List ℕ) (lent left : Tables) (found found' : List ℕ) (r : List RuleAnswer) : Type 0 where
  pub answers : r ≡ all_told (rules_of x) t
  pub tables : left ≡ with_all_tables (rules_of x) lent
  pub occurrences_left : found' ≡ in_front (one_after_another (found_of t) (rules_of x)) found
