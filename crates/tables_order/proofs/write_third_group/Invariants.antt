use Rattle.std.proofs.Common.{map, pos}
use Rattle.answers.proofs.Partly.{PartlyWritten}
use Rattle.tables.proofs.Groups.{third_from}
use Rattle.tables.specs.Tables.{third_group}
use Rattle.tables_order.proofs.write_third_group.Given as goal

-- of the third group what it has from h on is left to be written
abbrev pub invariant-loop-h : goal.invariant-loop-h
invariant-loop-h l =
    PartlyWritten l.begin l.initial.order l.order (map pos (third_group l.pattern)) (map pos (third_from l.pattern l.h)) l.next
