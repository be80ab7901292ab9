-- Two jobs whose searches meet the same bytes print the same lines but for holes and moves (`ReportsPaired`).
-- The comparisons decide the search; a text read from a file is bytes, so its frames show their holds.
use mathlib.Core.Bool.{true}
use mathlib.Core.List.{List}
use mathlib.Core.Path.{◌≡◌, refl, sym, ◌∙◌}
use Prim.Native.Nat.{ℕ, zero, suc, ◌+◌, ◌*◌, ◌≤◌}
use native.Mathlib.Omega.{arith}
use lib.Dec.{eqb}
use lib.ListN.{length, get_or}
use Rattle.answers.proofs.Bytes.{bytes_entry}
use Rattle.answers.specs.Answers.{converted}
use Rattle.answers.specs.Bytes.{Bytes}
use Rattle.hex_digits.proofs.Numbers.{number_below}
use Rattle.hex_digits.proofs.Table.{and_left, and_right}
use Rattle.hex_digits.specs.Hex.{all_digits}
use Rattle.hex_lines.specs.Lines.{line_end}
use Rattle.job.proofs.Lengths.{length_pattern}
use Rattle.job.proofs.RoundTrip.{good_lines_split}
use Rattle.job.proofs.Taken.{file_taken}
use Rattle.job.specs.Job.{m_in, n_in, bytes_in, text_in, pattern_in, q_in, good_line, good_lines, file_status}
use Rattle.steps.proofs.Decide.{same_texts}
use Rattle.steps.proofs.Text.{span_same}
use Rattle.steps.specs.Occurrences.{occurrences}
use Rattle.search.specs.Search.{search_done}
use Rattle.frames.proofs.Holds.{holds_listed}
use Rattle.frames.specs.Frames.{frames}
use Rattle.ones.specs.Ones.{ones_of}
use Rattle.convert.specs.Convert.{convert_done}
use Rattle.report_lines.specs.Printed.{report_lines}
use Rattle.report.proofs.Printed.{printed_done}
use Rattle.report.specs.Paired.{ReportsPaired}
use Rattle.report.specs.Report.{done_report}

-- what good lines give is bytes
bytes_read : (n a : ℕ) (bs : List ℕ) → good_lines n a bs ≡ true → Bytes (bytes_in n a bs)
unfolding Bytes bytes_in good_lines good_line
bytes_read zero a bs e = tt
bytes_read (suc n) a bs e =
    let here = and_left (good_line 2 a bs) (good_lines n (a + 3) bs) e in (
      number_below 2 a bs (and_left (all_digits 2 a bs) (eqb (get_or bs (a + 2) 0) line_end) here),
      bytes_read n (a + 3) bs (and_right (good_line 2 a bs) (good_lines n (a + 3) bs) e),
    )

text_bytes : (file : List ℕ) → file_status file ≡ 0 → Bytes (text_in file)
unfolding text_in
text_bytes file e =
    let m = m_in file in
    let n = n_in file in
    bytes_read n (11 + 3 * m) file
    (and_right (good_lines m 11 file) (good_lines n (11 + 3 * m) file) (rw good_lines_split at (file_taken file e).rest))

pub reports_paired : ReportsPaired
unfolding ReportsPaired done_report
reports_paired file other e e' hold pattern size same =
    let q = q_in file in
    let w = pattern_in file in
    let t = text_in file in
    let u = text_in other in
    let limits = (file_taken file e).limits in
    let m = length_pattern file in
    let some : 1 ≤ length w = omega arith in
    let (compared, found) = same_texts w t u some size same in
    let shared : report_lines (convert_done w u) (occurrences w u) (frames q w u)
    ≡ report_lines (converted (search_done w t) (ones_of u)) (occurrences w t) (frames q w u) = rw (compared, found, span_same w t u size) in (
      record { lines_printed = printed_done file e; holds_printed = refl },
      record {
        lines_printed = printed_done other e' ∙ rw (hold, pattern) shared;
        holds_printed =
            holds_listed q w u (bytes_entry u (text_bytes other e')) ∙ rw (size, found) (sym (holds_listed q w t (bytes_entry t (text_bytes file e))));
      },
    )
