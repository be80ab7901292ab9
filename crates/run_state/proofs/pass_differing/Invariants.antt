-- What the loop of `run_state::pass_differing` keeps, and its measure: the steps so far are a
-- `Stretch` that lists nothing. Assumes nothing.
use Rattle.std.proofs.Common.{[], ◌+◌, ◌-◌, length}
use Rattle.alignment.specs.Laid.{laid_at}
use Rattle.run_state.specs.Progress.{at, Stretch}
use Rattle.run_state.proofs.pass_differing.Given as goal

-- where the steps stand, and that nothing is listed up to there
abbrev pub invariant-loop-b : goal.invariant-loop-b
invariant-loop-b l =
    Stretch l.pattern l.text l.begin (at (laid_at l.b l.s l.begin.laid.repeat) l.begin.occurrences l.comparisons) []

-- what is left of the text
abbrev pub decreases-loop-b : goal.decreases-loop-b
decreases-loop-b l = length l.text + 1 - l.b
