use Rattle.std.proofs.Common.{◌+◌, ◌≤◌, map, pos, length}
use Rattle.answers.proofs.Partly.{PartlyWritten}
use Rattle.tables.proofs.Groups.{second_from}
use Rattle.tables.specs.Tables.{second_group}
use Rattle.tables_order.proofs.write_second_group.Given as goal

-- of the second group its part from k on is left to be written
abbrev pub invariant-loop-k : goal.invariant-loop-k
invariant-loop-k l = record {
  low : 1 ≤ l.k;
  high : l.k ≤ length l.pattern + 1;
  written :
      PartlyWritten 1 l.initial.order l.order (map pos (second_group l.pattern)) (map pos (second_from l.pattern l.k)) l.next;
}
