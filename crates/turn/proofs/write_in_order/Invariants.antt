use Rattle.std.proofs.Common.{drop, ◌+◌}
use Rattle.answers.proofs.Partly.{PartlyWritten}
use Rattle.turn.specs.Turned.{turned}
use Rattle.turn.specs.Ways.{way_number}
use Rattle.turn.proofs.write_in_order.Given as goal

-- past those copied, the turned bytes from copied + i on are left to be written
abbrev pub invariant-loop-i : goal.invariant-loop-i
invariant-loop-i l =
    PartlyWritten l.copied l.initial.out l.out (drop l.copied (turned (way_number l.way) l.bytes))
    (drop (l.copied + l.i) (turned (way_number l.way) l.bytes)) (l.copied + l.i)
