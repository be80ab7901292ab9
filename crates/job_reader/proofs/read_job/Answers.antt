-- `job_reader::read_job` meets its contract: a refusal leaves the buffers, and past the refusals the
-- lines stand in front of each. Assumes nothing.
use Rattle.std.proofs.Common.{rules, List, ◌++◌, ◌≡◌, refl, ℕ, zero, suc, ◌+◌, ◌*◌, ◌≤◌, length, take, drop}
use Rattle.std.proofs.Math.Seq.{length-take-le}
use Rattle.answers.proofs.Reasons.{numbered}
use Rattle.answers.specs.Answers.{status_only, if_done}
use Rattle.answers.specs.Buffers.{in_front}
use Rattle.job.proofs.Lengths.{length_bytes}
use Rattle.job.specs.Job.{bytes_in, pattern_in, text_in}
use Rattle.job.specs.Read.{read_answer, ReadOutcomeOf}
use Rattle.job.specs.declared.ReadAnswer.{ReadAnswer}
use Rattle.job_reader.specs.FirstLine.{FieldsTaken}
use Rattle.job_reader.specs.declared.Fields.{Fields}
use Rattle.job_reader.proofs.read_job.Goals as goal

abbrev answer_with : (status m q n : ℕ) → ReadAnswer
answer_with s m q n = record { answer = status_only s; m = m; q = q; n = n }

-- a refused call answers its status and leaves the buffers
refused : (s : ℕ) {file p t : List ℕ} {r : ReadAnswer} → (s ≡ 0 → ⊥) → r ≡ answer_with s 0 0 0 → ReadOutcomeOf s file p p t t r
unfolding if_done read_answer
refused zero h e = absurd (h refl)
refused (suc s) h e = record { answer = e; pattern_left = refl; text_left = refl }

-- the lines read into a buffer's first entries stand in front of it
front_read : (file old read : List ℕ) (n a : ℕ) → n ≤ length old → read ≡ bytes_in (length (take n old)) a file
    → read ++ drop n old ≡ in_front (bytes_in n a file) old
unfolding in_front
front_read file old read n a h e = rw (e, length-take-le n old h, length_bytes)

-- a call that is done
done : {file p p' t t' : List ℕ} {f : Fields} {r : ReadAnswer}
    → FieldsTaken file (length p) (length t) f
    → p' ≡ in_front (bytes_in f.m 11 file) p
    → t' ≡ in_front (bytes_in f.n (11 + 3 * f.m) file) t
    → r ≡ answer_with 0 f.m f.q f.n
    → ReadOutcomeOf 0 file p p' t t' r
unfolding if_done read_answer pattern_in text_in
done k left right a =
    record { answer = rw k.given at a; pattern_left = rw k.given at left; text_left = rw k.given at right }

pub returns-in-Err : goal.returns-in-Err
returns-in-Err c = rw (← c.in-Err.ensures.status) (refused _ (numbered _) c.from.ensures)

pub returns : goal.returns
returns c =
    let known = c.in-Ok.ensures.fields in
    rw (← c.in-Ok.ensures.status)
    (done known
    (front_read _ _ _ _ _ known.pattern_room c.read_lines.ensures)
    (front_read _ _ _ _ _ known.text_room c.read_lines-2.ensures)
    (search rules))
