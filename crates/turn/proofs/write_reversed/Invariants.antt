use Rattle.std.proofs.Common.{◌≡◌, drop}
use Rattle.answers.specs.Buffers.{in_front}
use Rattle.turn.specs.Turned.{turned}
use Rattle.turn.specs.Ways.{way_number}
use Rattle.turn.proofs.write_reversed.Given as goal

-- from i on the buffer is as it is to be left
abbrev pub invariant-loop-i : goal.invariant-loop-i
invariant-loop-i l = drop l.i l.out ≡ drop l.i (in_front (turned (way_number l.way) l.bytes) l.initial.out)
