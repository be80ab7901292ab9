-- The frames of a text by a list of rules (document 02, "A rule table"): the moves, then rule after
-- rule its holds. These are definitions.
use Rattle.std.specs.Prelude.{List, [], ◌∷◌, ℕ, suc, ◌*◌, eqb, length, get_or}
use Rattle.steps.specs.Occurrences.{occurrences}
use Rattle.ring.specs.Ring.{passing}
use Rattle.frames.specs.Frames.{hold, holds, with_holds}
use Rattle.rules.specs.Rules.{Rule}

-- the hold frame of rule k: 256 times its number
abbrev pub hold_of : (number : ℕ) → ℕ
hold_of k = hold * k

-- the frames after the holds of these rules, the first of which has this number, are marked
unfoldable pub marked : (number : ℕ) → List Rule → (t frames : List ℕ) → List ℕ
marked k [] t fs = fs
marked k (r ∷ rs) t fs =
    marked (suc k) rs t (with_holds (hold_of k) (holds (length t) r.hold_offset (occurrences r.pattern t)) fs)

-- conversion by rules copies each byte of the text (chain) to a move, then makes frame (b + q)
-- modulo n a hold of rule k for every occurrence (find) b of its pattern
unfoldable pub rule_frames : List Rule → (t : List ℕ) → List ℕ
rule_frames rs t = marked 1 rs t t

-- the positions where frames are holds of rule k, ascending
unfoldable pub holds_of_rule : (number : ℕ) → (frames : List ℕ) → List ℕ
holds_of_rule k fs = passing (length fs) 0 (λ i. eqb (get_or fs i 0) (hold_of k))
