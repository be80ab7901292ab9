-- What is promised of refusal 12 of a whole call (document 02, "A rule table"): past the other
-- refusals it is given just where two rules claim one byte (card), and it is given nowhere else.
-- Each is a type, and its proof is in proofs/. These are definitions.
use Rattle.std.specs.Prelude.{false, List, ◌↔◌, ◌≡◌, ℕ, ◌≤◌, length}
use Rattle.answers.specs.Refusals.{first_of, longest_text}
use Rattle.tables.specs.Buffers.{Tables, lengths, short_of}
use Rattle.rules.specs.Buffers.{all_needed}
use Rattle.rules.specs.Rules.{Rule, rules_of, table_refusals}
use Rattle.rules_answers.specs.declared.RulesAnswer.{RulesAnswer}
use Rattle.rules_claims.specs.Promises.{BothClaim}
use Rattle.search_rules.specs.SearchRules.{SearchRulesOutcome}

-- a search of t is past all that comes before 12: 11, and 4 and 5 of each rule; 6; and 7 for the
-- tables and for n occurrences (finds)
pub record RulesMeasured (x t : List ℕ) (lent : Tables) (found : List ℕ) : Type 0 where
  pub table : first_of (table_refusals x) ≡ 0
  pub text : length t ≤ longest_text
  pub tables : short_of (all_needed (rules_of x)) (lengths lent) ≡ false
  pub occurrences : length t ≤ length found

-- a status goes by what the rules claim: it is 0 just where no two claim one byte of the ring t,
-- and 12 just where two do
pub record ByClaims (status : ℕ) (rs : List Rule) (t : List ℕ) : Type 0 where
  pub done : (status ≡ 0) ↔ (¬ BothClaim rs t)
  pub refused : (status ≡ 12) ↔ BothClaim rs t

-- so does that of `search_rules`
unfoldable pub SearchedUnlessClaimed : Type 0
SearchedUnlessClaimed =
    (x t : List ℕ) (lent left : Tables) (found found' : List ℕ) (r : RulesAnswer) →
    SearchRulesOutcome x t lent left found found' r → RulesMeasured x t lent found → ByClaims r.status (rules_of x) t

-- and whatever it is lent, where it answers 12 two rules claim one byte
unfoldable pub SearchClaimedAt12 : Type 0
SearchClaimedAt12 =
    (x t : List ℕ) (lent left : Tables) (found found' : List ℕ) (r : RulesAnswer) →
    SearchRulesOutcome x t lent left found found' r → r.status ≡ 12 → BothClaim (rules_of x) t
