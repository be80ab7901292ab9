use Rattle.std.proofs.Common.{◌-◌, length}
use Rattle.explain_walk.specs.Reach.{Reaching}
use Rattle.explain_walk.proofs.approach.Given as goal

-- the walk stands at an alignment, and those before it spoil nothing of b
abbrev pub invariant-loop-here : goal.invariant-loop-here
invariant-loop-here l =
    Reaching l.job.pattern.now l.job.text.now l.b l.here (length l.job.pattern.now)

-- what is left before b
abbrev pub decreases-loop-here : goal.decreases-loop-here
decreases-loop-here l = l.b - l.here.position
