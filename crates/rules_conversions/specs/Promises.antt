-- What is promised of converting and putting back by a list of rules: that the test is the meaning,
-- both round trips, that conversion is injective, and that one rule is a pattern and its hold
-- offset. Each is a type, and its proof is in proofs/. These are definitions.
use Rattle.std.specs.Prelude.{true, false, List, [], ◌∷◌, ◌↔◌, ◌≡◌, ℕ}
use Rattle.answers.specs.Bytes.{Bytes}
use Rattle.rules_claims.specs.Claims.{claimed_twice}
use Rattle.restore_conversions.specs.Restored as one
use Rattle.rules.specs.Rules.{Rule, Inside}
use Rattle.rules_conversions.specs.Conversions.{all_held, restored, is_conversion}
use Rattle.rules_frames.specs.RuleFrames.{rule_frames}

-- by meaning, frames are a conversion where some text of bytes, none of which is claimed twice,
-- converts to them
pub record Conversion (rs : List Rule) (gs : List ℕ) : Type 0 where
  pub text : List ℕ
  pub bytes : Bytes text
  pub once : claimed_twice rs text ≡ false
  pub converts : rule_frames rs text ≡ gs

-- the test tells just that
unfoldable pub TestRight : Type 0
TestRight =
    (rs : List Rule) (gs : List ℕ) → Bytes (all_held rs) → Inside rs → (is_conversion rs gs ≡ true) ↔ Conversion rs gs

-- converting and then putting back returns the text exactly, even where a byte is claimed twice
unfoldable pub ConvertedRestored : Type 0
ConvertedRestored = (rs : List Rule) (t : List ℕ) → Bytes t → Inside rs → restored rs (rule_frames rs t) ≡ t

-- so conversion is injective: texts of bytes that convert to the same frames are equal
unfoldable pub ConversionInjective : Type 0
ConversionInjective =
    (rs : List Rule) (t u : List ℕ) → Bytes t → Bytes u → Inside rs → rule_frames rs t ≡ rule_frames rs u → t ≡ u

-- whatever is put back converts to the frames handed in, and none of its bytes is claimed twice
unfoldable pub RestoredConverted : Type 0
RestoredConverted =
    (rs : List Rule) (gs : List ℕ) → is_conversion rs gs ≡ true →
    (rule_frames rs (restored rs gs) ≡ gs) × (claimed_twice rs (restored rs gs) ≡ false)

-- and it is bytes
unfoldable pub RestoredBytes : Type 0
RestoredBytes =
    (rs : List Rule) (gs : List ℕ) → Bytes (all_held rs) → is_conversion rs gs ≡ true → Bytes (restored rs gs)

-- one rule is a pattern (motif) and its hold offset (hold place): what is put back by it
unfoldable pub OneRestored : Type 0
OneRestored = (r : Rule) (gs : List ℕ) → restored (r ∷ []) gs ≡ one.restored r.hold_offset r.pattern gs

-- and what the test tells of frames by it
unfoldable pub OneTested : Type 0
OneTested = (r : Rule) (gs : List ℕ) → is_conversion (r ∷ []) gs ≡ one.is_conversion r.hold_offset r.pattern gs
