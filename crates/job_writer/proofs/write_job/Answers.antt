-- `job_writer::write_job` meets its contract: past the refusals the first line, the pattern's lines and
-- the text's are put one after another. Assumes nothing.
use Rattle.std.proofs.Common.{rules, List, ◌≡◌, refl, ℕ, zero, suc, arith, length}
use Rattle.answers.proofs.Partly.{put, ◌then◌, put_front}
use Rattle.answers.proofs.Reasons.{numbered}
use Rattle.answers.specs.Answers.{status_only, if_done}
use Rattle.answers.specs.Buffers.{in_front}
use Rattle.hex_lines.proofs.Lines.{length_lines}
use Rattle.job.proofs.Lengths.{length_first_line}
use Rattle.job.specs.Job.{job_file, file_length}
use Rattle.job.specs.Write.{write_answer, WriteOutcomeOf}
use Rattle.job.specs.declared.WriteAnswer.{WriteAnswer}
use Rattle.job_writer.proofs.write_job.Goals as goal

abbrev answer_with : (status bytes : ℕ) → WriteAnswer
answer_with s b = record { answer = status_only s; bytes = b }

-- a refused call answers its status and leaves the file
refused : (s : ℕ) {q : ℕ} {w t file : List ℕ} {r : WriteAnswer} → (s ≡ 0 → ⊥) → r ≡ answer_with s 0 → WriteOutcomeOf s q w t file file r
unfolding if_done write_answer
refused zero h e = absurd (h refl)
refused (suc s) h e = record { answer = e; file_left = refl }

-- a call that is done answers the file's length and leaves the job file in front
done : {q : ℕ} {w t file file' : List ℕ} {r : WriteAnswer}
    → r ≡ answer_with 0 (file_length (length w) (length t)) → file' ≡ in_front (job_file q w t) file → WriteOutcomeOf 0 q w t file file' r
unfolding if_done write_answer
done e f = record { answer = e; file_left = f }

pub returns-in-Err : goal.returns-in-Err
returns-in-Err c = rw (← c.in-Err.ensures.status) (refused _ (numbered _) c.from.ensures)

pub returns : goal.returns
unfolding job_file
returns c =
    let first = put (length_first_line _ _ _) (c.write_first_line-pattern_at.ensures.end, c.write_first_line-pattern_at.ensures.written) in
    let pattern = put (length_lines _ _) (c.write_lines-text_at.ensures.end, c.write_lines-text_at.ensures.written) in
    let text = put (length_lines _ _) (c.write_lines-bytes.ensures.end, c.write_lines-bytes.ensures.written) in
    let size : c.write_lines-bytes.result ≡ file_length (length c.args.pattern.now) (length c.args.text.now) = omega arith in
    rw (← c.in_default.ensures.status)
    (done (rw size (search rules)) (put_front (first then pattern then text)))
