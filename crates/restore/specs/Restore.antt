-- What putting frames back answers and leaves in its buffer (document 02, "Back to cards"). These are definitions.
use Rattle.std.specs.Prelude.{not, List, [], ◌∷◌, ◌++◌, ◌≡◌, ℕ, length}
use Rattle.answers.specs.Answers.{status_only, if_done}
use Rattle.answers.specs.Buffers.{in_front}
use Rattle.answers.specs.Refusals.{Refusal, refuse, first_of, job_refusals, buffer_refusal}
use Rattle.answers.specs.declared.Answer.{Answer}
use Rattle.restore_conversions.specs.Restored.{restored, is_conversion}

-- 9: frames that are no conversion under this pattern (motif) and hold offset (hold place)
abbrev pub conversion_refusal : (q : ℕ) → (w frames : List ℕ) → Refusal
conversion_refusal q w gs = refuse 9 (not (is_conversion q w gs))

-- the status of putting back: 4, 5, 6, 7, then 9; there are n frames, and n entries are needed for the text (chain)
unfoldable pub restore_status : (q : ℕ) → (w frames : List ℕ) → (text_len : ℕ) → ℕ
restore_status q w gs x =
    let n = length gs in
    first_of (job_refusals (length w) q n ++ (buffer_refusal x n ∷ conversion_refusal q w gs ∷ []))

-- the text in its buffer after a call of this status
unfoldable pub restored_left : (status q : ℕ) → (w frames text : List ℕ) → List ℕ
restored_left s q w gs text = if_done s (in_front (restored q w gs) text) text

-- what `restore` answers and leaves, of status s: none of what every answer has beside its status is worked out; text is the caller's buffer (lent
-- buffer) for the text (chain), text' the same at exit
pub record RestoreOutcomeOf (s q : ℕ) (w gs text text' : List ℕ) (r : Answer) : Type 0 where
  pub answer : r ≡ status_only s
  pub text_left : text' ≡ restored_left s q w gs text

-- what `restore` answers and leaves, with the number of the first condition that holds, or 0
abbrev pub RestoreOutcome : (q : ℕ) (w frames text text' : List ℕ) (r : Answer) → Type 0
RestoreOutcome q w gs text text' r = RestoreOutcomeOf (restore_status q w gs (length text)) q w gs text text' r
