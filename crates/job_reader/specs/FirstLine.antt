-- A job's first line as it is read: document 01's number and values for each case of the answer; and what is known of the fields of a
-- file that is taken. These are definitions.
use Rattle.std.specs.Prelude.{true, cond, List, ◌≡◌, ℕ, ◌+◌, ◌*◌, ◌≤◌, length, Option, Some, None}
use Rattle.answers.specs.Refusals.{WithinLimits}
use Rattle.job.specs.Job.{good_line, good_lines, edition_in, m_in, q_in, n_in, file_length}
use Rattle.job_reader.specs.declared.Fields.{Fields}

-- document 01's number for each case of a first line: 0, or refusal 2
unfoldable pub first_line_status : Option Fields → ℕ
first_line_status (Some fields) = 0
first_line_status None = 2

abbrev pub no_fields : Fields
no_fields = record { edition = 0; m = 0; q = 0; n = 0 }

-- document 01's values for each case of a first line
unfoldable pub first_line_fields : Option Fields → Fields
first_line_fields (Some fields) = fields
first_line_fields None = no_fields

-- the fields that a file's first line gives
abbrev pub fields_in : (file : List ℕ) → Fields
fields_in bs = record { edition = edition_in bs; m = m_in bs; q = q_in bs; n = n_in bs }

-- what reading a first line answers
pub record FirstLineOutcome (file : List ℕ) (r : Option Fields) : Type 0 where
  pub status : first_line_status r ≡ cond (good_line 10 0 file) 0 2
  pub fields : first_line_fields r ≡ cond (good_line 10 0 file) (fields_in file) no_fields

-- a file whose first line is there and good, and gives these fields
pub record FirstLineRead (file : List ℕ) (fields : Fields) : Type 0 where
  pub there : 11 ≤ length file
  pub good : good_line 10 0 file ≡ true
  pub given : fields ≡ fields_in file

-- a file that is taken, with these fields, into buffers of these lengths
pub record FieldsTaken (file : List ℕ) (pattern_len text_len : ℕ) (fields : Fields) : Type 0 where
  pub given : fields ≡ fields_in file
  pub limits : WithinLimits fields.m fields.q fields.n
  pub pattern_room : fields.m ≤ pattern_len
  pub text_room : fields.n ≤ text_len
  pub size : length file ≡ file_length fields.m fields.n
  pub pattern_lines : good_lines fields.m 11 file ≡ true
  pub text_lines : good_lines fields.n (11 + 3 * fields.m) file ≡ true
