-- What is promised of the frames of a list of rules (document 02, "A rule table"): which frame each
-- byte (card) gets, that each find adds one hold, and that one rule is a pattern and its hold
-- offset. Each is a type, and its proof is in proofs/. These are definitions.
use Rattle.std.specs.Prelude.{true, false, List, [], ◌∷◌, ◌≡◌, ℕ, suc, ◌≤◌, ◌<◌, ltb, length, get_or}
use Rattle.answers.specs.Bytes.{Bytes}
use Rattle.tables.specs.Sets.{byte}
use Rattle.ring.specs.Ring.{ascending}
use Rattle.frames.specs.Frames.{is_hold, holds, frames}
use Rattle.frames.specs.Promises.{holds_of}
use Rattle.rules.specs.Buffers.{one_after_another}
use Rattle.rules.specs.Rules.{Rule, rule_of, Patterned}
use Rattle.rules_claims.specs.Claims.{found_of, claims, claimants, claimed_twice}
use Rattle.rules_frames.specs.RuleFrames.{hold_of, rule_frames, holds_of_rule}

-- frame i is 256 × k where rule k and no other claims byte i, and a move with its byte where none
-- does
unfoldable pub FramesRight : Type 0
FramesRight =
    (rs : List Rule) (t : List ℕ) (i : ℕ) → i < length t →
    (claimants rs t i ≤ 1 → (k : ℕ) → k < length rs → claims (rule_of rs k) t i ≡ true →
    get_or (rule_frames rs t) i 0 ≡ hold_of (suc k))
    × (claimants rs t i ≡ 0 → get_or (rule_frames rs t) i 0 ≡ byte t i)

-- in a text of bytes a frame is a hold, of whichever rule, just where some rule claims its byte;
-- also where two do
unfoldable pub HoldClaimed : Type 0
HoldClaimed =
    (rs : List Rule) (t : List ℕ) (i : ℕ) → Bytes t → i < length t →
    is_hold (get_or (rule_frames rs t) i 0) ≡ ltb 0 (claimants rs t i)

-- so each rule's holds stand just where its occurrences (finds) put them
unfoldable pub RuleHoldsRight : Type 0
RuleHoldsRight =
    (rs : List Rule) (t : List ℕ) (k : ℕ) → Bytes t → claimed_twice rs t ≡ false → k < length rs →
    holds_of_rule (suc k) (rule_frames rs t)
    ≡ ascending (length t) (holds (length t) (rule_of rs k).hold_offset (found_of t (rule_of rs k)))

-- and each occurrence of each rule has a hold of its own; in an empty ring an empty pattern occurs
-- too
unfoldable pub AllHoldsOnce : Type 0
AllHoldsOnce =
    (rs : List Rule) (t : List ℕ) → (length t ≡ 0 → Patterned rs) → Bytes t → claimed_twice rs t ≡ false →
    length (holds_of (rule_frames rs t)) ≡ length (one_after_another (found_of t) rs)

-- one rule is a pattern (motif) and its hold offset (hold place)
unfoldable pub OneFrames : Type 0
OneFrames = (r : Rule) (t : List ℕ) → rule_frames (r ∷ []) t ≡ frames r.hold_offset r.pattern t

-- and a byte is never claimed twice by it
unfoldable pub OneOnce : Type 0
OneOnce = (r : Rule) (t : List ℕ) → claimed_twice (r ∷ []) t ≡ false
