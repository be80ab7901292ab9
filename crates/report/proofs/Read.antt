-- What reading into buffers of the largest sizes answers and leaves: the file's status, and the job of a file that is taken.
-- Conditions past the file's own count only where none of those holds; then by the outcome of a reading that is done.
use mathlib.Core.List.{List, [], ◌∷◌, append-nil}
use mathlib.Core.Path.{◌≡◌, sym, ◌∙◌}
use Prim.Native.Nat.{ℕ, ◌≤◌}
use native.Mathlib.Omega.{arith}
use borrow.Author.Tests.{le-ltb}
use lib.ListN.{length}
use Rattle.answers.proofs.Refusals.{none_done, same_past}
use Rattle.answers.specs.Promises.{NoneHolds}
use Rattle.answers.specs.Refusals.{Refusal, first_of, longest_pattern, longest_text, WithinLimits, buffer_refusal}
use Rattle.job.proofs.CallsRoundTrip.{read_status_of, read_back}
use Rattle.job.proofs.Lengths.{length_pattern, length_text}
use Rattle.job.proofs.Taken.{file_taken}
use Rattle.job.specs.Job.{file_refusals, file_status, m_in, q_in, n_in, pattern_in, text_in}
use Rattle.job.specs.Promises.{ReadBack}
use Rattle.job.specs.Read.{read_status, ReadOutcome}
use Rattle.job.specs.declared.ReadAnswer.{ReadAnswer}

-- reading into buffers of the largest sizes is refused just as the file is
read_status_is : (file : List ℕ) (p t : ℕ) → longest_pattern ≤ p → longest_text ≤ t → read_status file p t ≡ file_status file
unfolding read_status file_status first_of
read_status_is file p t hp ht =
    same_past (file_refusals file) rooms [] enough ∙ rw append-nil
  where
    rooms : List Refusal
    rooms = buffer_refusal p (m_in file) ∷ buffer_refusal t (n_in file) ∷ []

    enough : NoneHolds (file_refusals file) → first_of rooms ≡ 0
    enough none =
        let limits = (file_taken file (none_done (file_refusals file) none)).limits in
        none_done rooms (le-ltb p (m_in file) (omega arith), (le-ltb t (n_in file) (omega arith), tt))

-- a file is taken: the limits that its job keeps, and the job in the answer and the buffers
pub record JobRead (file p' t' : List ℕ) (r : ReadAnswer) : Type 0 where
  pub file_taken : file_status file ≡ 0
  pub limits : WithinLimits (length (pattern_in file)) (q_in file) (length (text_in file))
  pub job : ReadBack (q_in file) (pattern_in file) (text_in file) p' t' r

module _ {file p p' t t' : List ℕ} {r : ReadAnswer} (o : ReadOutcome file p p' t t' r) (lp : 128 ≡ length p) (lt : 16384 ≡ length t) where
  pub status_read : r.answer.status ≡ file_status file
  status_read = read_status_of o ∙ read_status_is file (length p) (length t) (omega arith) (omega arith)

  pub job_read : r.answer.status ≡ 0 → JobRead file p' t' r
  job_read e =
      let done = sym status_read ∙ e in
      let limits = (file_taken file done).limits in
      record {
        file_taken = done;
        limits = rw (length_pattern file, length_text file) limits;
        job = read_back (rw (sym (read_status_of o) ∙ e) at o);
      }
