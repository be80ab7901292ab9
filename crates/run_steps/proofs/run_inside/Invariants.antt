-- What the loops of `run_steps::run_inside` keep, and their measures: `Moved` over the alignments,
-- `Comparing` over the comparisons of one. Assumes nothing.
use Rattle.std.proofs.Common.{◌+◌, ◌-◌, length}
use Rattle.alignment.specs.Laid.{laid_first}
use Rattle.run_state.specs.Progress.{at, Followed, Moved}
use Rattle.run_steps.proofs.Comparing.{Comparing}
use Rattle.run_steps.proofs.run_inside.Given as goal

-- the comparisons before this one agreed, the first among them
abbrev pub invariant-loop-pattern : goal.invariant-loop-pattern
invariant-loop-pattern l = Comparing l.pattern l.text l.run.laid l.i

-- what is left of the pattern
abbrev pub decreases-loop-pattern : goal.decreases-loop-pattern
decreases-loop-pattern l = length l.pattern - l.i

-- the steps have gone on from where a search begins, and the repeats there have been followed
abbrev pub invariant-alignments : goal.invariant-alignments
invariant-alignments l = record {
  moved : Moved l.pattern l.text (at (laid_first l.pattern) 0 0) l.run l.initial.found l.found;
  followed : Followed l.pattern l.text l.run.laid;
}

-- what is left of the text
abbrev pub decreases-alignments : goal.decreases-alignments
decreases-alignments l = length l.text + 1 - l.run.laid.position
