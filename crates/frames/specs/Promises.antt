-- What is promised of conversion: each is a type, and its proof is in proofs/ (docs/PROMISES.md). These are definitions.
use Rattle.std.specs.Prelude.{cond, List, ◌≡◌, ℕ, ◌<◌, length, get_or}
use Rattle.answers.specs.Bytes.{Bytes}
use Rattle.tables.specs.Sets.{byte}
use Rattle.steps.specs.Occurrences.{occurrences}
use Rattle.ring.specs.Ring.{passing}
use Rattle.frames.specs.Frames.{hold, is_hold, is_held, frames}

-- demand 2: exactly the named byte (card) of each occurrence (find) becomes a hold, and every other is a move with its byte
unfoldable pub HoldsRight : Type 0
HoldsRight =
    (q i : ℕ) (w t : List ℕ) → i < length t →
    get_or (frames q w t) i 0 ≡ cond (is_held q w t i) hold (byte t i)

-- the positions of the holds among frames, ascending
unfoldable pub holds_of : (frames : List ℕ) → List ℕ
holds_of fs = passing (length fs) 0 (λ i. is_hold (get_or fs i 0))

-- each occurrence has a hold of its own: in a text of bytes there are as many holds as occurrences
unfoldable pub HoldsOnce : Type 0
HoldsOnce =
    (q : ℕ) (w t : List ℕ) → q < length w → Bytes t → length (holds_of (frames q w t)) ≡ length (occurrences w t)
