use Rattle.tables_delta1.proofs.Table.{TableSettled}
use Rattle.tables_delta1.proofs.write_rows.Given as goal

-- the rows are right of which the last position that has the byte is below i
abbrev pub invariant-loop-i : goal.invariant-loop-i
invariant-loop-i l = TableSettled l.pattern l.i l.table
