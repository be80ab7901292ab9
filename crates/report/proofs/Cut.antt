-- A file longer than the longest job prints what its first bytes print, where those too are more than the longest job has.
-- Both are refused: by what the first line gives, which is the same, or else by their length, which no first line within the limits gives.
use mathlib.Core.Bool.{Bool, true, false, not}
use mathlib.Core.List.{List, [], ◌∷◌, ◌++◌}
use mathlib.Core.Path.{◌≡◌, refl, ap, ◌∙◌}
use Prim.Native.Nat.{ℕ, zero, suc, ◌+◌, ◌≤◌, ◌<◌}
use native.Mathlib.Omega.{arith}
use borrow.Author.Tests.{le-ltb, leb-true, leb-false, ne_eqb}
use lib.Dec.{leb, eqb}
use lib.ListN.{length, take}
use lib.Seq.{take_all, get_or-take, length-take-le}
use Rattle.answers.proofs.Refusals.{same_past, limits_hold}
use Rattle.answers.specs.Refusals.{Refusal, refuse, first_of, job_refusals}
use Rattle.hex_digits.specs.Hex.{all_digits, number}
use Rattle.job.proofs.Taken.{file_taken}
use Rattle.job.specs.Job.{edition_in, m_in, q_in, n_in, good_line, good_lines, file_length, file_refusals, file_status}
use Rattle.report.proofs.Printed.{printed_refused}
use Rattle.report.specs.Promises.{longest_file, CutRight, input_room, InputRight}
use Rattle.report_lines.specs.Printed.{refused_report}
use Rattle.report.specs.Report.{seek_report}

-- digits, and the number that they give, within the first n bytes
all_digits_take : (c a n : ℕ) (bs : List ℕ) → a + c ≤ n → all_digits c a (take n bs) ≡ all_digits c a bs
unfolding all_digits
all_digits_take zero a n bs h = refl
all_digits_take (suc c) a n bs h = rw (get_or-take n bs a 0 (omega arith), all_digits_take c (suc a) n bs (omega arith))

number_take : (c a n : ℕ) (bs : List ℕ) → a + c ≤ n → number c a (take n bs) ≡ number c a bs
unfolding number
number_take zero a n bs h = refl
number_take (suc c) a n bs h = rw (get_or-take n bs a 0 (omega arith), number_take c (suc a) n bs (omega arith))

-- the refusals by what the first line gives
first_line_refusals : List ℕ → List Refusal
first_line_refusals bs =
    refuse 2 (not (good_line 10 0 bs))
    ∷ refuse 3 (not (eqb (edition_in bs) 1))
    ∷ job_refusals (m_in bs) (q_in bs) (n_in bs)

first_line_take : (n : ℕ) (bs : List ℕ) → 11 ≤ n → first_line_refusals (take n bs) ≡ first_line_refusals bs
unfolding first_line_refusals good_line edition_in m_in q_in n_in
first_line_take n bs h =
    rw (
      all_digits_take 10 0 n bs (omega arith),
      get_or-take n bs 10 0 (omega arith),
      number_take 2 0 n bs (omega arith),
      number_take 2 2 n bs (omega arith),
      number_take 2 4 n bs (omega arith),
      number_take 4 6 n bs (omega arith),
    )

-- a file longer than the longest is refused by its first line or else by its length
long_status : (bs : List ℕ) → longest_file < length bs → file_status bs ≡ first_of (first_line_refusals bs ++ (refuse 1 true ∷ []))
unfolding file_status file_refusals first_line_refusals first_of job_refusals
long_status bs h =
    rw (le-ltb (length bs) 11 (omega arith))
    (same_past
    (first_line_refusals bs)
    (refuse 1 (not (eqb (length bs) (file_length (m_in bs) (n_in bs)))) ∷ refuse 2 (not (good_lines (m_in bs + n_in bs) 11 bs)) ∷ [])
    (refuse 1 true ∷ [])
    (λ none.
    let limits = (limits_hold (m_in bs) (q_in bs) (n_in bs) none.1.1).0 in
    rw (ne_eqb (length bs) (file_length (m_in bs) (n_in bs)) (λ e. omega arith))))

-- so it prints the refusal
long_refused : (bs : List ℕ) → longest_file < length bs → file_status bs ≡ 0 → ⊥
long_refused bs h e = let t = file_taken bs e in omega arith

long_report : (bs : List ℕ) → longest_file < length bs → seek_report bs ≡ refused_report (first_of (first_line_refusals bs ++ (refuse 1 true ∷ [])))
long_report bs h = printed_refused bs (long_refused bs h) ∙ ap refused_report (long_status bs h)

pub cut_right : CutRight
unfolding CutRight
cut_right n bs h = go (leb (length bs) n) refl
  where
    go : (z : Bool) → leb (length bs) n ≡ z → seek_report (take n bs) ≡ seek_report bs
    go true e = rw (take_all n bs (leb-true _ _ e))
    go false e =
        let longer = leb-false (length bs) n e in
        let l = length-take-le n bs (omega arith) in
        rw (long_report (take n bs) (omega arith), long_report bs (omega arith), first_line_take n bs (omega arith))

pub input_right : InputRight
unfolding InputRight CutRight
input_right file = cut_right input_room file (omega arith)
