use Rattle.std.proofs.Common.{◌-◌}
use Rattle.explain_walk.specs.Reach.{Reaching}
use Rattle.explain_walk.proofs.reach.Given as goal

-- the walk stands at an alignment, and those before it spoil b first at `spoilt`
abbrev pub invariant-loop-spoilt : goal.invariant-loop-spoilt
invariant-loop-spoilt l = Reaching l.job.pattern.now l.job.text.now l.b l.here l.spoilt

-- what is left before b
abbrev pub decreases-loop-spoilt : goal.decreases-loop-spoilt
decreases-loop-spoilt l = l.b - l.here.position
