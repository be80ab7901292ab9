-- What turning a job answers and leaves in its buffers (document 02, "Mirrored edges"). These are definitions.
use Rattle.std.specs.Prelude.{List, [], ◌∷◌, ◌++◌, ◌≡◌, ℕ, ltb, length}
use Rattle.answers.specs.Answers.{status_only, if_done}
use Rattle.answers.specs.Buffers.{in_front}
use Rattle.answers.specs.Refusals.{Refusal, refuse, first_of, job_refusals, buffer_refusal}
use Rattle.turn.specs.Turned.{turned, turned_index}
use Rattle.turn.specs.declared.TurnAnswer.{TurnAnswer}

-- 8: a way above 3
abbrev pub way_refusal : (way : ℕ) → Refusal
way_refusal way = refuse 8 (ltb 3 way)

-- the status of turning: 8 before all else, then 4, 5, 6, 7; m and n entries are needed for the turned pattern (motif) and
-- text (chain)
unfoldable pub turn_status : (way m q n : ℕ) → (turned_pattern_len turned_text_len : ℕ) → ℕ
turn_status way m q n p x = first_of (way_refusal way ∷ job_refusals m q n ++ (buffer_refusal p m ∷ buffer_refusal x n ∷ []))

-- turning works out none of what every answer has beside its status; it also answers the turned q, 0 where it is refused
unfoldable pub turn_answer : (status way m q : ℕ) → TurnAnswer
turn_answer s way m q = record { answer = status_only s; q = if_done s (turned_index way m q) 0 }

-- what a refused call answers: its status, and the hold offset (hold place) 0
abbrev pub refused_answer : (status : ℕ) → TurnAnswer
refused_answer status = record { answer = status_only status; q = 0 }

-- the bytes turned, in front of their buffer after a call of this status
unfoldable pub turned_left : (status way : ℕ) → (bytes buffer : List ℕ) → List ℕ
turned_left s way bytes buffer = if_done s (in_front (turned way bytes) buffer) buffer

-- what `turn` answers and leaves, of status s: p and x are the caller's buffers (lent buffers) for the turned pattern and text, p' and x' the same
-- at exit
pub record TurnOutcomeOf (s way q : ℕ) (w t p p' x x' : List ℕ) (r : TurnAnswer) : Type 0 where
  pub answer : r ≡ turn_answer s way (length w) q
  pub pattern_left : p' ≡ turned_left s way w p
  pub text_left : x' ≡ turned_left s way t x

-- what `turn` answers and leaves, with the number of the first condition that holds, or 0
abbrev pub TurnOutcome : (way q : ℕ) (w t p p' x x' : List ℕ) (r : TurnAnswer) → Type 0
TurnOutcome way q w t p p' x x' r =
    TurnOutcomeOf (turn_status way (length w) q (length t) (length p) (length x)) way q w t p p' x x' r
