-- The round trips of the calls, for every outcome that their contracts allow.
-- If a call answers 0, no condition holds, so its buffers start with what the definitions give; the definitions' round trips do the rest.
use mathlib.Core.List.{List}
use mathlib.Core.Path.{◌≡◌, sym, ap, ◌∙◌}
use Prim.Native.Nat.{ℕ}
use native.Mathlib.Omega.{arith}
use lib.ListN.{length}
use Rattle.answers.proofs.Fronts.{in_front_take}
use Rattle.answers.specs.Answers.{if_done}
use Rattle.job.proofs.Lengths.{length_file, length_pattern, length_text}
use Rattle.job.proofs.RoundTrip.{written_read, read_written, m_written, n_written}
use Rattle.job.proofs.Taken.{file_taken, file_taken_done, readable, readable_done, writable, writable_done}
use Rattle.job.specs.Job.{job_file, file_length, m_in, q_in, n_in, pattern_in, text_in}
use Rattle.job.specs.Promises.{ReadBack, WrittenBack, WrittenRead, ReadWritten, CallsWrittenRead, CallsReadWritten}
use Rattle.job.specs.Read.{ReadOutcomeOf, read_answer}
use Rattle.job.specs.Write.{WriteOutcomeOf, write_answer}
use Rattle.job.specs.declared.ReadAnswer.{ReadAnswer}
use Rattle.job.specs.declared.WriteAnswer.{WriteAnswer}

module _ {bs p p' x x' : List ℕ} {r : ReadAnswer} where
  pub read_status_of : {s : ℕ} → ReadOutcomeOf s bs p p' x x' r → r.answer.status ≡ s
  unfolding read_answer
  read_status_of o = ap (λ (z : ReadAnswer). z.answer.status) o.answer

  -- a reading that is done has what the file gives
  pub read_back : ReadOutcomeOf 0 bs p p' x x' r → ReadBack (q_in bs) (pattern_in bs) (text_in bs) p' x' r
  unfolding read_answer if_done
  read_back o =
      record {
        done = rw o.answer;
        m = rw (o.answer, length_pattern bs);
        hold_offset = rw o.answer;
        n = rw (o.answer, length_text bs);
        pattern = rw (o.answer, o.pattern_left) (in_front_take (pattern_in bs) p (m_in bs) (length_pattern bs));
        text = rw (o.answer, o.text_left) (in_front_take (text_in bs) x (n_in bs) (length_text bs));
      }

module _ {q : ℕ} {w t f f' : List ℕ} {a : WriteAnswer} where
  write_status_of : {s : ℕ} → WriteOutcomeOf s q w t f f' a → a.answer.status ≡ s
  unfolding write_answer
  write_status_of o = ap (λ (z : WriteAnswer). z.answer.status) o.answer

  -- a writing that is done has the job's file
  written_back : WriteOutcomeOf 0 q w t f f' a → WrittenBack (job_file q w t) f' a
  unfolding write_answer if_done
  written_back o =
      let size = length_file q w t in
      record {
        done = rw o.answer;
        bytes = rw (o.answer, size);
        written = rw (o.answer, o.file_left) (in_front_take (job_file q w t) f (file_length (length w) (length t)) size);
      }

pub calls_written_read : CallsWrittenRead
unfolding CallsWrittenRead WrittenRead
calls_written_read q w t f f' a hw ht o e p p' x x' r i lp lx =
    let file = job_file q w t in
    let written = sym (write_status_of o) ∙ e in
    let limits = (writable (length w) q (length t) (length f) written).limits in
    let left = written_back (rw written at o) in
    let gives = written_read q w t hw ht limits.hold_offset limits.pattern limits.text in
    let m : m_in file ≡ length w = m_written q w t (omega arith) in
    let n : n_in file ≡ length t = n_written q w t (omega arith) in
    let taken = file_taken file gives.taken in
    let read = readable_done file (length p) (length x) record { taken = taken; pattern_room = omega arith; text_room = omega arith } in
    rw (gives.hold_offset, gives.pattern, gives.text) at (read_back (rw read at (rw left.written at i)))

pub calls_read_written : CallsReadWritten
unfolding CallsReadWritten ReadWritten
calls_read_written bs p p' x x' r o e f f' a i l =
    let w = pattern_in bs in
    let t = text_in bs in
    let read = sym (read_status_of o) ∙ e in
    let taken = (readable bs (length p) (length x) read).taken in
    let left = read_back (rw read at o) in
    let m = length_pattern bs in
    let n = length_text bs in
    let written = writable_done (length w) (q_in bs) (length t) (length f) (omega arith) in
    let given = rw (left.hold_offset, left.pattern, left.text) at i in
    rw (read_written bs (file_taken_done bs taken)) at (written_back (rw written at given))
