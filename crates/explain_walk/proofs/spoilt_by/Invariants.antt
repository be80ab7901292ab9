use Rattle.explain_walk.proofs.Row.{Clear}
use Rattle.explain_walk.proofs.spoilt_by.Given as goal

-- the comparisons before index i spoil nothing of b
abbrev pub invariant-loop-i : goal.invariant-loop-i
invariant-loop-i l = Clear l.job.pattern.now l.job.text.now l.here l.b l.i
