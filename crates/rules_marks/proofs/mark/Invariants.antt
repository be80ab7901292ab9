use Rattle.rules_claims.specs.Claims.{rule}
use Rattle.rules_marks.proofs.Marks.{Marking}
use Rattle.rules_marks.proofs.mark.Given as goal

-- the bytes before j are marked, and the prefix is the longest that ends before the byte that is
-- read next
abbrev pub invariant-loop-j : goal.invariant-loop-j
invariant-loop-j l = Marking (rule l.pattern l.hold_offset) l.text l.first l.initial.marks l.marks l.prefix l.j
