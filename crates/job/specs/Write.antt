-- What writing a job answers and leaves in its buffer. These are definitions.
use Rattle.std.specs.Prelude.{List, [], ◌∷◌, ◌++◌, ◌≡◌, ℕ, length}
use Rattle.answers.specs.Answers.{status_only, if_done}
use Rattle.answers.specs.Buffers.{in_front}
use Rattle.answers.specs.Refusals.{first_of, job_refusals, buffer_refusal}
use Rattle.job.specs.Job.{job_file, file_length}
use Rattle.job.specs.declared.WriteAnswer.{WriteAnswer}

-- the status of writing: 4, 5, 6, 7; needed is the file's length
unfoldable pub write_status : (m q n : ℕ) → (file_len : ℕ) → ℕ
write_status m q n f = first_of (job_refusals m q n ++ (buffer_refusal f (file_length m n) ∷ []))

-- writing works out none of what every answer has beside its status; it also answers the file's length
unfoldable pub write_answer : (status : ℕ) → (m n : ℕ) → WriteAnswer
write_answer s m n = record { answer = status_only s; bytes = if_done s (file_length m n) 0 }

-- what `write_job` answers and leaves, of status s: file' is the buffer file at exit
pub record WriteOutcomeOf (s q : ℕ) (w t file file' : List ℕ) (r : WriteAnswer) : Type 0 where
  pub answer : r ≡ write_answer s (length w) (length t)
  pub file_left : file' ≡ if_done s (in_front (job_file q w t) file) file

abbrev pub WriteOutcome : (q : ℕ) (w t file file' : List ℕ) (r : WriteAnswer) → Type 0
WriteOutcome q w t f f' r = WriteOutcomeOf (write_status (length w) q (length t) (length f)) q w t f f' r
