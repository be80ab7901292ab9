-- What is promised of a ring that is started r bytes (cards) later, by a list of rules (document
-- 02, "A rule table"): its frames, its cost, and which bytes are claimed twice. Each is a type, and
-- its proof is in proofs/. These are definitions.
use Rattle.std.specs.Prelude.{List, ◌≡◌, ℕ}
use Rattle.rotation_laws.specs.Promises.{rotated}
use Rattle.rules.specs.Rules.{Rule}
use Rattle.rules_claims.specs.Claims.{claimed_twice}
use Rattle.rules_frames.specs.RuleFrames.{rule_frames}
use Rattle.price_rules.specs.PriceRules.{rules_cost}

-- it is converted to the frames started r later, the rules' numbers kept, for any r
unfoldable pub RuleFramesRotated : Type 0
RuleFramesRotated =
    (r : ℕ) (rs : List Rule) (t : List ℕ) →
    rule_frames rs (rotated r t) ≡ rotated r (rule_frames rs t)

-- a byte of it is claimed twice just where one of the ring is, for any r
unfoldable pub TwiceRotated : Type 0
TwiceRotated =
    (r : ℕ) (rs : List Rule) (t : List ℕ) →
    claimed_twice rs (rotated r t) ≡ claimed_twice rs t

-- it costs the same, for any r
unfoldable pub RulesCostRotated : Type 0
RulesCostRotated =
    (r : ℕ) (rs : List Rule) (t : List ℕ) →
    rules_cost rs (rotated r t) ≡ rules_cost rs t
