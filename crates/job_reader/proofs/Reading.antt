-- What a first line, a line of two digits and several such lines consist of, what the cases of a first line that is read say, and the status by fields.
-- By unfolding the definitions at their digits, and by induction on the number of lines.
use mathlib.Core.Bool.{Bool, true, false, ◌&&◌, not, cond, and-eq-true_iff, and_assoc, and-true, and-false}
use mathlib.Core.List.{List, [], ◌∷◌, ◌++◌}
use mathlib.Core.Path.{◌≡◌, ap, ◌∙◌}
use Prim.Native.Nat.{ℕ, zero, suc, ◌+◌, ◌*◌, ◌-◌, ◌≤◌, ◌<◌}
use native.Mathlib.Nat.{zero-add, add-zero}
use native.Mathlib.Omega.{arith}
use borrow.Author.Tests.{le-ltb, eq-eqb, ne_eqb}
use lib.Dec.{eqb}
use lib.ListN.{length, get_or}
use Rattle.answers.specs.Refusals.{Refusal, refuse, first_of, job_refusals, buffer_refusal}
use Rattle.hex_digits.proofs.Pairs.{both_digits}
use Rattle.hex_digits.proofs.Parse.{told_good, told_bad, refused_bad}
use Rattle.hex_digits.proofs.Table.{and_left, and_right}
use Rattle.hex_digits.specs.Hex.{is_digit, all_digits, number}
use Rattle.hex_digits.specs.Parsed.{ParsedOutcome}
use Rattle.job.proofs.RoundTrip.{good_lines_split}
use Rattle.job.specs.Job.{good_line, good_lines, bytes_in, edition_in, m_in, q_in, n_in, file_length, file_refusals}
use Rattle.hex_lines.specs.Lines.{line_end}
use Rattle.job.specs.Read.{read_status}
use Rattle.job_reader.specs.FirstLine.{FirstLineOutcome, FirstLineRead, first_line_status, first_line_fields, no_fields, fields_in}
use Rattle.job_reader.specs.declared.Fields.{Fields}
use Rattle.std.specs.Prelude.{Some, None}

-- a first line is five pairs of digits and the line end
pub first_line_pairs : (bs : List ℕ)
    → good_line 10 0 bs
    ≡ all_digits 2 0 bs
    && (all_digits 2 2 bs && (all_digits 2 4 bs && (all_digits 2 6 bs && (all_digits 2 8 bs && eqb (get_or bs 10 0) line_end))))
unfolding good_line all_digits
first_line_pairs bs = simp and_assoc

-- the fields are read pair by pair
pub fields_read : (bs : List ℕ) (e m q high low : ℕ) → e ≡ number 2 0 bs → m ≡ number 2 2 bs → q ≡ number 2 4 bs → high ≡ number 2 6 bs
    → low ≡ number 2 8 bs → ◌≡◌ {A = Fields} (record { edition = e; m = m; q = q; n = high * 256 + low }) (fields_in bs)
unfolding edition_in m_in q_in n_in number
fields_read bs e m q high low pe pm pq ph pl =
    let pn : high * 256 + low ≡ n_in bs = omega arith in
    λ i. record { edition = pe i; m = pm i; q = pq i; n = pn i }

pub first_refused : {bs : List ℕ} → good_line 10 0 bs ≡ false → FirstLineOutcome bs None
unfolding first_line_status first_line_fields
first_refused e = record { status = rw e; fields = rw e }

pub first_good : {bs : List ℕ} {fields : Fields} → good_line 10 0 bs ≡ true → fields ≡ fields_in bs → FirstLineOutcome bs (Some fields)
unfolding first_line_status first_line_fields
first_good e q = record { status = rw e; fields = rw e q }

-- of a run of digits, two that are not digits leave none
bad_digits : (n k a : ℕ) (bs : List ℕ) → k + 2 ≤ n → all_digits 2 (a + k) bs ≡ false → all_digits n a bs ≡ false
unfolding all_digits
bad_digits zero k a bs h e = absurd (omega arith)
bad_digits (suc zero) k a bs h e = absurd (omega arith)
bad_digits (suc (suc n)) zero a bs h e = rw (← and_assoc, rw (add-zero, and-true) at e)
bad_digits (suc (suc n)) (suc k) a bs h e =
    let there : a + suc k ≡ suc a + k = omega arith in
    rw (bad_digits (suc n) k (suc a) bs (omega arith) (rw there at e), and-false)

-- a pair of the first line that was refused
pub pair_refused : {bs : List ℕ} {at : ℕ} → ParsedOutcome (all_digits 2 at bs) (number 2 at bs) None → at ≤ 8 → FirstLineOutcome bs None
unfolding good_line
pair_refused {bs} {at} o h = first_refused (rw (bad_digits 10 at 0 bs (omega arith) (rw zero-add (refused_bad o))))

-- what a first line that is read says
pub good_read : {bs : List ℕ} {fields : Fields} → FirstLineOutcome bs (Some fields) → (good_line 10 0 bs ≡ true) × (fields ≡ fields_in bs)
unfolding first_line_status first_line_fields
good_read {bs} o =
    let good = told_good (good_line 10 0 bs) o.status in
    (good, o.fields ∙ ap (λ (b : Bool). cond b (fields_in bs) no_fields) good)

pub refused_is : {bs : List ℕ} → FirstLineOutcome bs None → good_line 10 0 bs ≡ false
unfolding first_line_status
refused_is o = told_bad _ o.status

-- a line of two digits, byte by byte
pub line_bytes : (a : ℕ) (bs : List ℕ)
    → good_line 2 a bs ≡ is_digit (get_or bs a 0) && is_digit (get_or bs (a + 1) 0) && eqb (get_or bs (a + 2) 0) line_end
unfolding good_line
line_bytes a bs = rw both_digits

-- from the i-th of n lines on: that line, and those from the next on
module _ (n i a : ℕ) (bs : List ℕ) (h : i < n) where
  left : n - i ≡ suc (n - (i + 1))
  left = omega (arith, h)

  next : a + 3 * (i + 1) ≡ a + 3 * i + 3
  next = omega arith

  pub lines_from : good_lines (n - i) (a + 3 * i) bs ≡ good_line 2 (a + 3 * i) bs && good_lines (n - (i + 1)) (a + 3 * (i + 1)) bs
  unfolding good_lines
  lines_from = rw (left, next)

  pub bytes_from : bytes_in (n - i) (a + 3 * i) bs ≡ number 2 (a + 3 * i) bs ∷ bytes_in (n - (i + 1)) (a + 3 * (i + 1)) bs
  unfolding bytes_in
  bytes_from = rw (left, next)

-- each of n good lines has its two digits
pub line_digits : (n a : ℕ) (bs : List ℕ) → good_lines n a bs ≡ true → (i : ℕ) → i < n → all_digits 2 (a + 3 * i) bs ≡ true
unfolding good_lines good_line
line_digits zero a bs e i h = absurd (omega arith)
line_digits (suc n) a bs e zero h =
    let here : a + 3 * 0 ≡ a = omega arith in
    rw here (and_left (all_digits 2 a bs) _ (and_left (good_line 2 a bs) _ e))
line_digits (suc n) a bs e (suc i) h =
    let there : a + 3 * suc i ≡ a + 3 + 3 * i = omega arith in
    rw there (line_digits n (a + 3) bs (and_right (good_line 2 a bs) _ e) i (omega arith))

-- good lines: so many, and so many more
pub lines_both :
    (m n a : ℕ) (bs : List ℕ) → good_lines (m + n) a bs ≡ true → (good_lines m a bs ≡ true) × (good_lines n (a + 3 * m) bs ≡ true)
lines_both m n a bs good = (and-eq-true_iff (good_lines m a bs) _).0 (rw (good_lines_split m n a bs) at good)

-- past the first line, the status of reading goes by its fields
module _ (bs : List ℕ) (f : Fields) (pattern_len text_len : ℕ) where
  -- past 4, 5 and 6: 1, then 2 in the rest, then 7
  abbrev pub size_refusals : List Refusal
  size_refusals =
      refuse 1 (not (eqb (length bs) (file_length f.m f.n)))
      ∷ refuse 2 (not (good_lines (f.m + f.n) 11 bs))
      ∷ buffer_refusal pattern_len f.m
      ∷ buffer_refusal text_len f.n
      ∷ []

  module _ (r : FirstLineRead bs f) where
    pub other_edition : (f.edition ≡ 1 → ⊥) → read_status bs pattern_len text_len ≡ 3
    unfolding read_status file_refusals first_of
    other_edition h = rw (le-ltb (length bs) 11 r.there, r.good, ne_eqb (edition_in bs) 1 (rw r.given at h))

    pub edition_read : f.edition ≡ 1 → read_status bs pattern_len text_len ≡ first_of (job_refusals f.m f.q f.n ++ size_refusals)
    unfolding read_status file_refusals first_of job_refusals
    edition_read e = rw (r.given, le-ltb (length bs) 11 r.there, r.good, eq-eqb (edition_in bs) 1 (rw r.given at e))
