-- What is promised of turning (document 02, "Mirrored edges"): where each byte goes, and that the same turn twice gives back what was drawn, of
-- the definitions and of the calls.
-- Each is a type, and its proof is in proofs/. These are definitions.
use Rattle.std.specs.Prelude.{List, ◌≡◌, ℕ, ◌≤◌, ◌<◌, length, get_or, take}
use Rattle.answers.specs.Bytes.{Bytes}
use Rattle.turn.specs.Turn.{TurnOutcome}
use Rattle.turn.specs.Turned.{turned_byte, turned, turned_index}
use Rattle.turn.specs.declared.TurnAnswer.{TurnAnswer}

-- the byte at an index stands, turned, at the turned index: so the turned hold offset (hold place) names the same byte (card)
unfoldable pub ByteTurned : Type 0
ByteTurned =
    (way i : ℕ) (bytes : List ℕ) → i < length bytes →
    get_or (turned way bytes) (turned_index way (length bytes) i) 0 ≡ turned_byte way (get_or bytes i 0)

-- the same turn twice gives back what was drawn: of bytes
unfoldable pub TurnedTwice : Type 0
TurnedTwice = (way : ℕ) (bytes : List ℕ) → Bytes bytes → turned way (turned way bytes) ≡ bytes

-- and of the hold offset (hold place) q
unfoldable pub IndexTurnedTwice : Type 0
IndexTurnedTwice = (way m q : ℕ) → q < m → turned_index way m (turned_index way m q) ≡ q

-- `turn` answered r and left the buffers p' and x': it is done, and has this hold offset (hold place), pattern (motif)
-- and text (chain)
pub record TurnedTo (q : ℕ) (w t p' x' : List ℕ) (r : TurnAnswer) : Type 0 where
  pub done : r.answer.status ≡ 0
  pub hold_offset : r.q ≡ q
  pub pattern : take (length w) p' ≡ w
  pub text : take (length t) x' ≡ t

-- `turn` and then `turn` in the same way on what it left, with buffers long enough: for all that their contracts allow, the job comes back
unfoldable pub CallsTurnedTwice : Type 0
CallsTurnedTwice =
    (way q : ℕ) (w t p p' x x' : List ℕ) (r : TurnAnswer) → Bytes w → Bytes t
    → TurnOutcome way q w t p p' x x' r → r.answer.status ≡ 0
    → (u u' v v' : List ℕ) (s : TurnAnswer) → TurnOutcome way r.q (take (length w) p') (take (length t) x') u u' v v' s
    → length w ≤ length u → length t ≤ length v → TurnedTo q w t u' v' s
