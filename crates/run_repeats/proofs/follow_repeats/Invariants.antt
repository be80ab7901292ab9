-- What the loops of `run_repeats::follow_repeats` keep, and their measures: `Moved` over the
-- repeats, `Repeating` over the comparisons of one. Assumes nothing.
use Rattle.std.proofs.Common.{true, ◌≡◌, ◌+◌, ◌-◌, length}
use Rattle.run_state.specs.Progress.{Moved}
use Rattle.run_repeats.proofs.Repeating.{Repeating}
use Rattle.run_repeats.proofs.follow_repeats.Given as goal

-- the comparisons of the repeat before this one agreed
abbrev pub invariant-loop-pattern : goal.invariant-loop-pattern
invariant-loop-pattern l = Repeating l.pattern l.text l.b l.i

-- what is left of the row
abbrev pub decreases-loop-pattern : goal.decreases-loop-pattern
decreases-loop-pattern l = l.p - l.i

-- the steps have gone on from where they began, and a repeat comes next, after a shift by the
-- period
abbrev pub invariant-repeats : goal.invariant-repeats
invariant-repeats l = record {
  moved : Moved l.pattern l.text l.initial.run l.run l.initial.found l.found;
  shift : l.run.laid.shift ≡ l.p;
  repeat : l.run.laid.repeat ≡ true;
}

-- what is left of the text
abbrev pub decreases-repeats : goal.decreases-repeats
decreases-repeats l = length l.text + 1 - l.run.laid.position
