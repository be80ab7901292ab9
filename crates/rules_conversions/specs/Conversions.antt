-- Frames put back to bytes by a list of rules, and the test that tells whether they are a
-- conversion (document 02, "A rule table"). These are definitions.
use Rattle.std.specs.Prelude.{Bool, ◌&&◌, not, List, map, ℕ, eqb, length, get_or}
use Rattle.tables.specs.Least.{all_from}
use Rattle.rules_claims.specs.Claims.{claimed_twice}
use Rattle.restore_conversions.specs.Restored.{is_frame, all_restored}
use Rattle.rules.specs.Rules.{Rule, held}
use Rattle.rules_frames.specs.RuleFrames.{rule_frames}

-- the bytes (cards) that the rules hold
abbrev pub all_held : List Rule → List ℕ
all_held rs = map held rs

-- frames put back: a move becomes its byte, and 256 × k the byte that rule k holds
unfoldable pub restored : List Rule → (frames : List ℕ) → List ℕ
restored rs gs = all_restored (all_held rs) gs

-- entry i is a move or a hold of one of the rules, and what is put back converts to it again
unfoldable pub converts_again : List Rule → (frames : List ℕ) → (i : ℕ) → Bool
converts_again rs gs i =
    is_frame (length rs) (get_or gs i 0) && eqb (get_or (rule_frames rs (restored rs gs)) i 0) (get_or gs i 0)

-- frames are a conversion by these rules: no byte of what is put back is claimed twice, and each of
-- them is converted to again
unfoldable pub is_conversion : List Rule → (frames : List ℕ) → Bool
is_conversion rs gs = not (claimed_twice rs (restored rs gs)) && all_from (length gs) 0 (converts_again rs gs)
