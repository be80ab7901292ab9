use Rattle.tables_delta2.proofs.Linking.{Begun}
use Rattle.tables_delta2.proofs.link_shifts.Given as goal

-- the entries from k on are linked, and `after` is the linked shift after k
abbrev pub invariant-loop-k : goal.invariant-loop-k
invariant-loop-k l = Begun l.pattern l.next l.k l.after
