use Rattle.rules_marks.proofs.Blocks.{Blocked}
use Rattle.rules_marks.proofs.block_twice.Given as goal

-- the rules before i that have a flag have marked the bytes that they claim, each once
abbrev pub invariant-loop-i : goal.invariant-loop-i
invariant-loop-i l = Blocked l.rules l.flags l.text l.first l.cards l.marks l.i
