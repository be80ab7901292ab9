-- What is promised of rules that cannot meet: they never claim one byte (card), on any ring; and of
-- two that can: on some ring they do. Each is a type, and its proof is in proofs/. These are
-- definitions.
use Rattle.std.specs.Prelude.{true, false, List, [], ◌∷◌, ◌≡◌, ℕ, ◌<◌, length}
use Rattle.answers.specs.Bytes.{Bytes}
use Rattle.rules.specs.Rules.{Rule, rule_of}
use Rattle.rules_claims.specs.Claims.{claimed_twice}
use Rattle.rules_meet.specs.Meeting.{can_meet}

-- rules of which no two can meet never give 12
unfoldable pub NeverTwice : Type 0
NeverTwice =
    (rs : List Rule) →
    ((i j : ℕ) → i < j → j < length rs → can_meet (rule_of rs i) (rule_of rs j) ≡ false) →
    (t : List ℕ) → claimed_twice rs t ≡ false

-- t is a ring on which both rules claim one byte, and of bytes if their patterns (motifs) are
pub record MetOn (r s : Rule) (t : List ℕ) : Type 0 where
  pub twice : claimed_twice (r ∷ s ∷ []) t ≡ true
  pub bytes : Bytes r.pattern → Bytes s.pattern → Bytes t

-- two rules that can meet, each with its hold offset (hold place) in its pattern, do on some ring
unfoldable pub CanMeetSomewhere : Type 0
CanMeetSomewhere =
    (r s : Rule) → r.hold_offset < length r.pattern → s.hold_offset < length s.pattern →
    can_meet r s ≡ true → (t : List ℕ) × MetOn r s t
