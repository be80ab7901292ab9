use Rattle.rules_status.proofs.Lengths.{Summed}
use Rattle.rules_status.proofs.all_bytes.Given as goal

-- the patterns before rule i have `sum` bytes
abbrev pub invariant-loop-i : goal.invariant-loop-i
invariant-loop-i l = Summed l.rules l.sum l.i
