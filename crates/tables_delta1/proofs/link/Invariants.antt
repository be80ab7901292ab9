use Rattle.tables_delta1.specs.Rows.{Linked, RowEnds}
use Rattle.tables_delta1.proofs.link.Given as goal

-- the positions below i are linked, and the rows' ends are right for them
abbrev pub invariant-loop-i : goal.invariant-loop-i
invariant-loop-i l = record { linked : Linked l.pattern l.i l.last; ends : RowEnds l.pattern l.i l.table }
