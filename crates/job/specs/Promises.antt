-- What is promised of job files: which are taken; and that they are written and read again, and
-- read and written again, of the definitions and of the calls. Each is a type, and its proof is
-- in proofs/. These are definitions.
use Rattle.std.specs.Prelude.{true, List, ◌↔◌, ◌≡◌, ℕ, ◌+◌, ◌≤◌, ◌<◌, length, take}
use Rattle.answers.specs.Bytes.{Bytes}
use Rattle.answers.specs.Refusals.{longest_pattern, longest_text, WithinLimits}
use Rattle.job.specs.Job.{job_file, file_length, file_status, edition_in, m_in, q_in, n_in, pattern_in, text_in, good_line, good_lines}
use Rattle.job.specs.Read.{ReadOutcome}
use Rattle.job.specs.Write.{WriteOutcome}
use Rattle.job.specs.declared.ReadAnswer.{ReadAnswer}
use Rattle.job.specs.declared.WriteAnswer.{WriteAnswer}

-- a file that is taken: its first line is ten digits and a line end, of edition 01, with m, q and n
-- within the limits; it has 11 + 3 × m + 3 × n bytes; and m + n lines of two digits follow
pub record FileTaken (file : List ℕ) : Type 0 where
  pub long : 11 ≤ length file
  pub first : good_line 10 0 file ≡ true
  pub edition : edition_in file ≡ 1
  pub limits : WithinLimits (m_in file) (q_in file) (n_in file)
  pub size : length file ≡ file_length (m_in file) (n_in file)
  pub rest : good_lines (m_in file + n_in file) 11 file ≡ true

-- the status of a file is 0 just where it is such a file
unfoldable pub TakenRight : Type 0
TakenRight = (file : List ℕ) → (file_status file ≡ 0) ↔ FileTaken file

-- a file is taken, and gives this hold offset (hold place), pattern (motif) and text (chain)
pub record Gives (file : List ℕ) (q : ℕ) (w t : List ℕ) : Type 0 where
  pub taken : file_status file ≡ 0
  pub hold_offset : q_in file ≡ q
  pub pattern : pattern_in file ≡ w
  pub text : text_in file ≡ t

-- what is written is read again: the file of every job within the limits gives that job
unfoldable pub WrittenRead : Type 0
WrittenRead =
    (q : ℕ) (w t : List ℕ) → Bytes w → Bytes t → q < length w → length w ≤ longest_pattern → length t ≤ longest_text
    → Gives (job_file q w t) q w t

-- what is read is written again: every file that is taken is the file of what it gives
unfoldable pub ReadWritten : Type 0
ReadWritten = (file : List ℕ) → file_status file ≡ 0 → job_file (q_in file) (pattern_in file) (text_in file) ≡ file

-- `read_job` answered r and left these buffers: it is done, and has this hold offset, pattern and text
pub record ReadBack (q : ℕ) (w t pattern' text' : List ℕ) (r : ReadAnswer) : Type 0 where
  pub done : r.answer.status ≡ 0
  pub m : r.m ≡ length w
  pub hold_offset : r.q ≡ q
  pub n : r.n ≡ length t
  pub pattern : take r.m pattern' ≡ w
  pub text : take r.n text' ≡ t

-- `write_job` and then `read_job` on what it wrote, with buffers long enough: for all that their contracts allow, the job comes back
unfoldable pub CallsWrittenRead : Type 0
CallsWrittenRead =
    (q : ℕ) (w t f f' : List ℕ) (a : WriteAnswer) → Bytes w → Bytes t → WriteOutcome q w t f f' a → a.answer.status ≡ 0
    → (p p' x x' : List ℕ) (r : ReadAnswer) → ReadOutcome (take a.bytes f') p p' x x' r
    → length w ≤ length p → length t ≤ length x → ReadBack q w t p' x' r

-- `write_job` answered r and left this buffer: it is done, and has this file
pub record WrittenBack (file file' : List ℕ) (r : WriteAnswer) : Type 0 where
  pub done : r.answer.status ≡ 0
  pub bytes : r.bytes ≡ length file
  pub written : take r.bytes file' ≡ file

-- `read_job` and then `write_job` on what it read, with a buffer long enough: for all that their contracts allow, the file comes back
unfoldable pub CallsReadWritten : Type 0
CallsReadWritten =
    (bs p p' x x' : List ℕ) (r : ReadAnswer) → ReadOutcome bs p p' x x' r → r.answer.status ≡ 0
    → (f f' : List ℕ) (a : WriteAnswer) → WriteOutcome r.q (take r.m p') (take r.n x') f f' a
    → length bs ≤ length f → WrittenBack bs f' a
