use Rattle.restore_conversions.proofs.Walk.walked.Given as goal
use Rattle.restore_conversions.specs.Walk.{behind, Walked}

-- the positions before b are walked over
abbrev pub invariant-loop-b : goal.invariant-loop-b
invariant-loop-b g l = Walked l.self.hold l.self.hold_offset l.self.pattern.now (behind l.self.bytes.now) l.self.frames.now l.b l.prefix
