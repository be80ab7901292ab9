use Rattle.tables_delta1.proofs.Settled.{RowSettled}
use Rattle.tables.specs.Sets.{byte}
use Rattle.tables_delta1.proofs.write_row.Given as goal

-- the positions from `at` on have lowered the row
abbrev pub invariant-loop-at : goal.invariant-loop-at
invariant-loop-at l = RowSettled l.pattern (byte l.pattern l.position) l.at l.row

-- each link leads further down
abbrev pub decreases-loop-at : goal.decreases-loop-at
decreases-loop-at l = l.at
