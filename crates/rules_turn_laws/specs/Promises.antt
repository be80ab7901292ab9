-- What is promised of rules and a ring that are turned alike (document 02, "A rule table"): the
-- frames, the cost, and which bytes (cards) are claimed twice. Each is a type, and its proof is in
-- proofs/. These are definitions.
use Rattle.std.specs.Prelude.{List, [], ◌∷◌, map, ◌≡◌, ℕ, length}
use Rattle.answers.specs.Bytes.{Bytes}
use Rattle.turn.specs.Turned.{turned, turned_index}
use Rattle.turn_laws.specs.Promises.{turned_frames}
use Rattle.rules.specs.Rules.{Rule, Inside}
use Rattle.rules_claims.specs.Claims.{claimed_twice}
use Rattle.rules_frames.specs.RuleFrames.{rule_frames}
use Rattle.price_rules.specs.PriceRules.{rules_cost}

-- a rule turned: its pattern (motif) and its hold offset (hold place)
unfoldable pub turned_rule : (way : ℕ) → Rule → Rule
turned_rule way r =
    record { pattern = turned way r.pattern; hold_offset = turned_index way (length r.pattern) r.hold_offset }

-- each rule turned, under its own number
unfoldable pub turned_rules : (way : ℕ) → List Rule → List Rule
turned_rules way rs = map (turned_rule way) rs

-- the patterns are bytes
unfoldable pub BytesEach : List Rule → Type 0
BytesEach [] = Unit {0}
BytesEach (r ∷ rs) = Bytes r.pattern × BytesEach rs

-- rules and a text (chain) turned alike convert to the frames turned, the rules' numbers kept
unfoldable pub RuleFramesTurned : Type 0
RuleFramesTurned =
    (way : ℕ) (rs : List Rule) (t : List ℕ) → BytesEach rs → Bytes t → Inside rs →
    rule_frames (turned_rules way rs) (turned way t) ≡ turned_frames way (rule_frames rs t)

-- and a byte is claimed twice just where one was
unfoldable pub TwiceTurned : Type 0
TwiceTurned =
    (way : ℕ) (rs : List Rule) (t : List ℕ) → BytesEach rs → Bytes t → Inside rs →
    claimed_twice (turned_rules way rs) (turned way t) ≡ claimed_twice rs t

-- they cost the same
unfoldable pub RulesCostTurned : Type 0
RulesCostTurned =
    (way : ℕ) (rs : List Rule) (t : List ℕ) → BytesEach rs → Bytes t → Inside rs →
    rules_cost (turned_rules way rs) (turned way t) ≡ rules_cost rs t
