use Rattle.rules_conversions.proofs.Table.{Held}
use Rattle.rules_conversions.proofs.held_bytes.Given as goal

-- the bytes that the first i rules hold
abbrev pub invariant-loop-i : goal.invariant-loop-i
invariant-loop-i l = Held l.rules l.byte-items l.i
