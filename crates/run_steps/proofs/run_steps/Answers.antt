-- `run_steps::run_steps` meets its contract: the alignments that end inside the text and then those
-- that wrap around are all of them. By the law of the steps that have come past what is shown.
-- Assumes nothing.
use Rattle.std.proofs.Common.{arith}
use Rattle.steps.proofs.Text.{span_few}
use Rattle.run_state.proofs.Moved.{moved_then, moved_all, counted_few}
use Rattle.run_steps.proofs.run_steps.Goals as goal

-- both parts together
pub overflow_cast-result : goal.overflow_cast-result
overflow_cast-result c =
    let shifts = c.requires.shifts in
    let moved = moved_then shifts.tables.taken shifts.room c.run_inside-seam.ensures c.run_wrapping-run.ensures.moved in
    omega (arith, counted_few shifts.tables.taken moved.stretch.standing, shifts.tables.taken.text)

pub overflow_cast-result-2 : goal.overflow_cast-result-2
overflow_cast-result-2 c =
    let taken = c.requires.shifts.tables.taken in
    let stands = c.run_wrapping-run.ensures.moved.stretch.standing in
    omega (arith, stands.few, stands.inside, taken.text, taken.few, span_few c.args.job.now.pattern.now c.args.job.now.text.now taken.some)

pub returns : goal.returns
returns c =
    let shifts = c.requires.shifts in
    let taken = shifts.tables.taken in
    let far = span_few c.args.job.now.pattern.now c.args.job.now.text.now taken.some in
    let over =
    moved_all taken (moved_then taken shifts.room c.run_inside-seam.ensures c.run_wrapping-run.ensures.moved)
    (omega (arith, c.run_wrapping-run.ensures.past)) in
    record { occurrences_counted = over.0; comparisons_counted = over.1; occurrences_left = over.2 }
