-- `seek::report_of` meets its contract: the buffer is long enough for every report, and the bytes read print what the whole of the input prints.
-- By `report_fits`, and by `input_right` at the length of the input's buffer. Assumes nothing.
use Rattle.std.proofs.Common.{◌∙◌, ap, arith, take}
use Rattle.report_lines.proofs.Outcome.{reported}
use Rattle.report.proofs.Cut.{input_right}
use Rattle.report.proofs.Fits.{report_fits}
use Rattle.report.specs.Promises.{ReportFits, InputRight}
use Rattle.report.specs.Report.{seek_report}
use Rattle.seek.proofs.report_of.Goals as goal

pub returns-clause-inside : goal.returns-clause-inside
unfolding ReportFits
returns-clause-inside c =
    let fits = report_fits (take c.args.bytes c.args.read.now) in
    let r = reported c.seek_report.ensures (omega arith) in
    omega arith

pub returns-clause-counts : goal.returns-clause-counts
unfolding ReportFits
returns-clause-counts c =
    let fits = report_fits (take c.args.bytes c.args.read.now) in
    let r = reported c.seek_report.ensures (omega arith) in
    rw r.there r.size

pub returns-clause-reported : goal.returns-clause-reported
unfolding ReportFits InputRight
returns-clause-reported c =
    let fits = report_fits (take c.args.bytes c.args.read.now) in
    let r = reported c.seek_report.ensures (omega arith) in
    λ file same. r.there ∙ ap seek_report same ∙ rw c.requires.size (input_right file)
