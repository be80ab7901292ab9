-- `alignment::first_shift` meets its contract: the byte that is read is the one shown at the last
-- position. Assumes nothing.
use Rattle.std.proofs.Common.{arith}
use Rattle.steps.proofs.Text.{span_few}
use Rattle.alignment.proofs.first_shift.Goals as goal

pub overflow_add-b : goal.overflow_add-b
overflow_add-b g c =
    let job = c.args.job.now in
    let w = job.pattern.now in
    let t = job.text.now in
    let taken = c.requires.taken in
    omega (arith, g.met.R.Reading.within w t taken.some, span_few w t taken.some, taken)
