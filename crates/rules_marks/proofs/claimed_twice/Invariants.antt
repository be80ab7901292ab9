use Rattle.rules_marks.proofs.Flags.{Testing}
use Rattle.rules_marks.proofs.claimed_twice.Given as goal

-- the rules before i have their flags
abbrev pub invariant-loop-i : goal.invariant-loop-i
invariant-loop-i l = Testing l.rules l.flag-items l.some l.i
