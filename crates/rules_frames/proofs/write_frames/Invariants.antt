use Rattle.rules_frames.proofs.Written.{UnderWay}
use Rattle.rules_frames.proofs.write_frames.Given as goal

-- the holds of the rules before rule i are marked over the moves
abbrev pub invariant-loop-i : goal.invariant-loop-i
invariant-loop-i l = UnderWay l.rules l.text l.answer-items l.found l.initial.frames l.frames l.at l.i
