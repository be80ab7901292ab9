-- `job_reader::check_file` meets its contract: a file that is too short or whose first line is not good
-- is refused by that, and the fields of one that is taken are within the limits. Assumes nothing.
use Rattle.std.proofs.Common.{List, ◌≡◌, refl, sym, ℕ, ◌≤◌, ◌<◌, length}
use Rattle.std.proofs.lemmas.Result.{err_from_is_err_and}
use Rattle.std.specs.Option.{ok_or}
use Rattle.std.specs.Prelude.{Option, None, Some, Ok, Err, true, false}
use borrow.Author.Tests.{lt-ltb, le-ltb}
use Rattle.answers.specs.Refusals.{first_of}
use Rattle.answers.specs.declared.Reason.{Reason}
use Rattle.answers.specs.declared.Reason.TheVariants.{WrongByte}
use Rattle.job.proofs.Taken.{readable}
use Rattle.job.specs.Job.{good_line, file_refusals}
use Rattle.job.specs.Read.{read_status}
use Rattle.job_reader.proofs.Reading.{good_read, refused_is, lines_both}
use Rattle.job_reader.specs.FirstLine.{FirstLineOutcome, FieldsTaken, fields_in}
use Rattle.job_reader.specs.declared.Fields.{Fields}
use Rattle.job_reader.proofs.check_file.Goals as goal

-- what `ok_or` makes of a first line
line_refused : {file : List ℕ} {reason : Reason} (r : Option Fields) → FirstLineOutcome file r → Err reason ≡ ok_or r WrongByte
    → (good_line 10 0 file ≡ false) × (reason ≡ WrongByte)
line_refused (Some f) o e = absurd (cc)
line_refused None o e = (refused_is o, cc)

line_taken : {file : List ℕ} {f : Fields} (r : Option Fields) → FirstLineOutcome file r → Ok f ≡ ok_or r WrongByte
    → (good_line 10 0 file ≡ true) × (f ≡ fields_in file)
line_taken {f = f} (Some g) o e = let same : f ≡ g = cc in rw same (good_read o)
line_taken None o e = absurd (cc)

module _ (file : List ℕ) (p t : ℕ) where
  too_short : length file < 11 → 1 ≡ read_status file p t
  unfolding read_status file_refusals first_of
  too_short h = rw (lt-ltb _ _ h)

  bad_first_line : 11 ≤ length file → good_line 10 0 file ≡ false → 2 ≡ read_status file p t
  unfolding read_status file_refusals first_of
  bad_first_line h e = rw (le-ltb _ _ h, e)

  fields_taken : {f : Fields} → f ≡ fields_in file → 0 ≡ read_status file p t → FieldsTaken file p t f
  fields_taken given passed =
      let r = readable file p t (sym passed) in
      let (pattern, text) = lines_both _ _ _ _ r.taken.rest in
      rw given
      (record {
        given = refl;
        limits = r.taken.limits;
        pattern_room = r.pattern_room;
        text_room = r.text_room;
        size = r.taken.size;
        pattern_lines = pattern;
        text_lines = text;
      })

pub returns-then-file-lt11-clause-status : goal.returns-then-file-lt11-clause-status
returns-then-file-lt11-clause-status c = too_short _ _ _ c.if-file-lt11.true

pub returns-in_err-fields-clause-status : goal.returns-in_err-fields-clause-status
returns-in_err-fields-clause-status c =
    let p = err_from_is_err_and c.from_residual.result c.from_residual.ensures.1 in
    let (bad, wrong) = line_refused _ c.first_line.ensures c.in_err-fields.ensures.value in
    rw (p.1, p.2, wrong) (bad_first_line _ _ _ c.if-file-lt11.false bad)

pub check_fields-requires : goal.check_fields-requires
check_fields-requires c =
    let (good, given) = line_taken _ c.first_line.ensures c.in_ok-fields.ensures.value in
    record { there = c.if-file-lt11.false; good = good; given = given }

pub returns-clause-fields : goal.returns-clause-fields
returns-clause-fields c =
    let (_, given) = line_taken _ c.first_line.ensures c.in_ok-fields.ensures.value in
    fields_taken _ _ _ given c.in_ok-check_fields.ensures
