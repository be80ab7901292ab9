-- What the loops of `run_wrapping::run_wrapping` keep, and their measures: `Moved` over the
-- alignments, `Along` over the comparisons of one. Assumes nothing.
use Rattle.std.proofs.Common.{◌-◌, ◌≤◌, ◌<◌, length}
use Rattle.steps.specs.Steps.{row}
use Rattle.alignment.proofs.Along.{Along}
use Rattle.run_state.specs.Progress.{Moved}
use Rattle.run_wrapping.proofs.run_wrapping.Given as goal

-- the comparisons before this one agreed, and the alignment is shown once one has been made
abbrev pub invariant-loop-i : goal.invariant-loop-i
invariant-loop-i l = record {
  along : Along l.pattern l.text l.b (row l.pattern l.repeat) l.i;
  shown : 1 ≤ l.i → l.b < length l.text;
}

-- what is left of the row
abbrev pub decreases-loop-i : goal.decreases-loop-i
decreases-loop-i l = length (row l.pattern l.repeat) - l.i

-- the steps have gone on from where they began
abbrev pub invariant-alignments : goal.invariant-alignments
invariant-alignments l = Moved l.pattern l.text l.initial.run l.run l.initial.found l.found

-- what is left of the text
abbrev pub decreases-alignments : goal.decreases-alignments
decreases-alignments l = length l.text - l.run.laid.position
