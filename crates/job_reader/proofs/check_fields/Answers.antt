-- `job_reader::check_fields` meets its contract: past the first line the refusals go by its fields, and
-- each test that was passed takes one off. Assumes nothing.
use Rattle.std.proofs.Common.{true, List, [], ◌∷◌, ◌≡◌, ◌≢◌, refl, sym, ◌∙◌, ℕ, ◌+◌, arith, length}
use Rattle.std.proofs.lemmas.Result.{err_from_is_err_and}
use borrow.Author.Tests.{lt-ltb, le-ltb, eq-eqb, ne_eqb}
use Rattle.answers.proofs.Reasons.{numbered}
use Rattle.answers.proofs.Refusals.{job_refused, job_within, job_past}
use Rattle.answers.specs.Refusals.{first_of, job_refusals, buffer_refusal}
use Rattle.job.specs.Job.{good_lines, file_length}
use Rattle.job.specs.Read.{read_status}
use Rattle.job_reader.specs.FirstLine.{FirstLineRead}
use Rattle.job_reader.specs.declared.Fields.{Fields}
use Rattle.job_reader.proofs.Reading.{size_refusals, other_edition, edition_read}
use Rattle.job_reader.proofs.check_fields.Goals as goal
use Rattle.job_reader.proofs.check_fields.Goals.{then-pattern_len-m-via-then-pattern_len-m, then-pattern_len-m-via-else-pattern_len-m+then-text_len-n}

-- past the edition, the status is that of the refusals that are left: past 4, 5 and 6, and past the lines
module _ (file : List ℕ) (f : Fields) (p t : ℕ) (r : FirstLineRead file f) (edition : f.edition ≡ 1)
    (passed : 0 ≡ first_of (job_refusals f.m f.q f.n)) where
  by_sizes : read_status file p t ≡ first_of (size_refusals file f p t)
  by_sizes = edition_read file f p t r edition ∙ job_past _ _ _ passed refl _

  by_rooms : length file ≡ file_length f.m f.n → good_lines (f.m + f.n) 11 file ≡ true
      → read_status file p t ≡ first_of (buffer_refusal p f.m ∷ buffer_refusal t f.n ∷ [])
  unfolding first_of
  by_rooms size good = rw (by_sizes, eq-eqb _ _ size, good)

pub returns-then-fields-ne1 : goal.returns-then-fields-ne1
returns-then-fields-ne1 c = sym (other_edition _ c.args.fields _ _ c.requires c.if-fields-ne1.true)

pub returns-in_err-check_job : goal.returns-in_err-check_job
returns-in_err-check_job c =
    let p = err_from_is_err_and c.from_residual.result c.from_residual.ensures.1 in
    rw (p.1, p.2, edition_read _ c.args.fields _ _ c.requires c.if-fields-ne1.false)
    (job_refused _ _ _ c.in_err-check_job.ensures (numbered _) _)

pub overflow_mul-m : goal.overflow_mul-m
overflow_mul-m c = omega (arith, job_within _ _ _ c.in_ok-check_job.ensures refl)

pub overflow_add-m : goal.overflow_add-m
overflow_add-m c = omega (arith, job_within _ _ _ c.in_ok-check_job.ensures refl)

pub overflow_mul-n : goal.overflow_mul-n
overflow_mul-n c = omega (arith, job_within _ _ _ c.in_ok-check_job.ensures refl)

pub overflow_add-m-2 : goal.overflow_add-m-2
overflow_add-m-2 c = omega (arith, job_within _ _ _ c.in_ok-check_job.ensures refl)

pub returns-then-file-m : goal.returns-then-file-m
unfolding first_of
returns-then-file-m c =
    let other : length c.args.file.now ≢ file_length c.args.fields.m c.args.fields.n = λ e. omega arith in
    rw (by_sizes _ c.args.fields _ _ c.requires c.if-fields-ne1.false c.in_ok-check_job.ensures, ne_eqb _ _ other)

pub are_lines-requires-clause-few : goal.are_lines-requires-clause-few
are_lines-requires-clause-few c = omega (arith, job_within _ _ _ c.in_ok-check_job.ensures refl)

pub returns-then-not-are_lines : goal.returns-then-not-are_lines
unfolding first_of
returns-then-not-are_lines c =
    let bad = sym c.are_lines.ensures ∙ c.if-not-are_lines.true in
    rw (
      by_sizes _ c.args.fields _ _ c.requires c.if-fields-ne1.false c.in_ok-check_job.ensures,
      eq-eqb _ _ c.if-file-m.false,
      bad,
    )

pub returns-then-pattern_len-m : goal.returns-then-pattern_len-m
unfolding first_of
returns-then-pattern_len-m c =
    let good = sym c.are_lines.ensures ∙ c.if-not-are_lines.false in
    rw (by_rooms _ c.args.fields _ _ c.requires c.if-fields-ne1.false c.in_ok-check_job.ensures c.if-file-m.false good)
    (elim c.then-pattern_len-m.branch [
      | then-pattern_len-m-via-then-pattern_len-m w ↦ rw (lt-ltb _ _ w.if-pattern_len-m.true)
      | then-pattern_len-m-via-else-pattern_len-m+then-text_len-n w ↦ rw (le-ltb _ _ w.if-pattern_len-m.false, lt-ltb _ _ w.if-text_len-n.true)
    ])

pub returns : goal.returns
unfolding first_of
returns c =
    let good = sym c.are_lines.ensures ∙ c.if-not-are_lines.false in
    rw (
      by_rooms _ c.args.fields _ _ c.requires c.if-fields-ne1.false c.in_ok-check_job.ensures c.if-file-m.false good,
      le-ltb _ _ c.if-pattern_len-m.false,
      le-ltb _ _ c.if-text_len-n.false,
    )
