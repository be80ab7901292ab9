-- The outcome of writing a report, by whether its buffer is long enough: what the code has to show in each case, and what a caller learns.
-- The test of the one condition decides the status.
use mathlib.Core.List.{List}
use mathlib.Core.Path.{◌≡◌, refl}
use Prim.Native.Nat.{ℕ, ◌≤◌, ◌<◌}
use native.Mathlib.Omega.{arith}
use borrow.Author.Tests.{lt-ltb, le-ltb}
use lib.ListN.{length, take}
use Rattle.answers.proofs.Fronts.{in_front_take}
use Rattle.answers.proofs.Partly.{Put, put_front}
use Rattle.answers.specs.Answers.{status_only, if_done}
use Rattle.answers.specs.Refusals.{first_of}
use Rattle.report_lines.specs.Printed.{report_status, report_answer, ReportWritten}
use Rattle.report_lines.specs.declared.ReportAnswer.{ReportAnswer}

abbrev answer_with : (status bytes : ℕ) → ReportAnswer
answer_with s b = record { answer = status_only s; bytes = b }

pub too_short : (report out : List ℕ) {size : ℕ} {r : ReportAnswer}
    → length report ≡ size → length out < size → r ≡ answer_with 7 0 → ReportWritten report out out r
unfolding report_status first_of report_answer if_done
too_short report out l h e = rw (l, lt-ltb _ _ h) (record { answer = e; out_left = refl })

pub written : {report out out' : List ℕ} {bytes : ℕ} {r : ReportAnswer}
    → Put 0 report out out' bytes → bytes ≤ length out → r ≡ answer_with 0 bytes → ReportWritten report out out' r
unfolding report_status first_of report_answer if_done
written {report} {out} {bytes = bytes} p h e =
    let size : length report ≡ bytes = omega (arith, p.after) in
    rw (size, le-ltb _ _ h) (record { answer = rw size e; out_left = put_front p })

-- a buffer that is long enough has the report in front, as many bytes as are answered
pub record Reported (report out' : List ℕ) (bytes : ℕ) : Type 0 where
  pub size : bytes ≡ length report
  pub there : take bytes out' ≡ report

pub reported : {report out out' : List ℕ} {r : ReportAnswer}
    → ReportWritten report out out' r → length report ≤ length out → Reported report out' r.bytes
unfolding report_status first_of report_answer if_done
reported {report} {out} w h =
    let e = le-ltb _ _ h in
    let o = rw e at w in
    record {
      size = rw o.answer;
      there = rw (o.answer, o.out_left) (in_front_take report out (length report) refl);
    }
