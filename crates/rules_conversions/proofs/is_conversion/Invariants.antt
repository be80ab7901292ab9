use Rattle.rules_conversions.proofs.Table.{Right}
use Rattle.rules_conversions.proofs.is_conversion.Given as goal

-- the holds of the first i rules are right
abbrev pub invariant-loop-i : goal.invariant-loop-i
invariant-loop-i l = Right l.rules l.frames l.i
