use Rattle.rules.proofs.Tested.{Passed}
use Rattle.rules.specs.Rules.{count_of}
use Rattle.rules.proofs.check_slots.Given as goal

-- none of the rules before slot i is refused
abbrev pub invariant-loop-i : goal.invariant-loop-i
invariant-loop-i l = Passed l.rules (count_of l.rules) l.i
