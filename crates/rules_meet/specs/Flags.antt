-- What testing the rules of a table tells: which of them can meet no other. These are definitions.
use Rattle.std.specs.Prelude.{Bool, false, List, ◌≡◌, ℕ, ◌<◌}
use Rattle.rules.specs.Rules.{count_of, rule_at}
use Rattle.rules_meet.specs.Meeting.{can_meet}

-- rule i of a table can meet none of its others
pub record MeetsNone (x : List ℕ) (i : ℕ) : Type 0 where
  pub apart : (j : ℕ) → j < count_of x → (i ≡ j → ⊥) → can_meet (rule_at x i) (rule_at x j) ≡ false

-- what testing a rule tells
pub record MeetingTold (x : List ℕ) (i : ℕ) (told : Bool) : Type 0 where
  pub none : told ≡ false → MeetsNone x i
