-- What reading a job answers and leaves in its buffers. These are definitions.
use Rattle.std.specs.Prelude.{List, [], ◌∷◌, ◌++◌, ◌≡◌, ℕ, length}
use Rattle.answers.specs.Answers.{status_only, if_done}
use Rattle.answers.specs.Buffers.{in_front}
use Rattle.answers.specs.Refusals.{first_of, buffer_refusal}
use Rattle.job.specs.Job.{file_refusals, m_in, q_in, n_in, pattern_in, text_in}
use Rattle.job.specs.declared.ReadAnswer.{ReadAnswer}

-- the status of reading: the file's refusals, then 7; needed are m entries for the pattern (motif) and n for the text (chain)
unfoldable pub read_status : (file : List ℕ) → (pattern_len text_len : ℕ) → ℕ
read_status bs p t = first_of (file_refusals bs ++ (buffer_refusal p (m_in bs) ∷ buffer_refusal t (n_in bs) ∷ []))

-- reading works out none of what every answer has beside its status; it also answers m, q and n
unfoldable pub read_answer : (status : ℕ) → (file : List ℕ) → ReadAnswer
read_answer s bs =
    record { answer = status_only s; m = if_done s (m_in bs) 0; q = if_done s (q_in bs) 0; n = if_done s (n_in bs) 0 }

-- what `read_job` answers and leaves, of status s: x' is the buffer x at exit
pub record ReadOutcomeOf (s : ℕ) (file pattern pattern' text text' : List ℕ) (r : ReadAnswer) : Type 0 where
  pub answer : r ≡ read_answer s file
  pub pattern_left : pattern' ≡ if_done s (in_front (pattern_in file) pattern) pattern
  pub text_left : text' ≡ if_done s (in_front (text_in file) text) text

abbrev pub ReadOutcome : (file pattern pattern' text text' : List ℕ) (r : ReadAnswer) → Type 0
ReadOutcome bs p p' t t' r = ReadOutcomeOf (read_status bs (length p) (length t)) bs p p' t t' r
