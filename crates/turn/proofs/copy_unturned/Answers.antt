-- `turn::copy_unturned` meets its contract: as drawn the turned bytes are the bytes, and in the
-- other ways none is written. Assumes nothing.
use Rattle.std.proofs.Common.{refl, sym}
use Rattle.answers.proofs.Fronts.{from_entry_none}
use Rattle.answers.specs.Buffers.{in_front}
use Rattle.turn.proofs.Turned.{as_drawn}
use Rattle.turn.specs.Ways.{way_number}
use Rattle.turn.proofs.copy_unturned.Goals as goal

pub returns-in-AsDrawn-clause-copied : goal.returns-in-AsDrawn-clause-copied
returns-in-AsDrawn-clause-copied c =
    rw (as_drawn (way_number c.args.way) c.args.bytes.now (rw c.in-AsDrawn.is refl))
    c.copy_blocks.ensures.copied

pub returns-in_default-clause-copied : goal.returns-in_default-clause-copied
unfolding in_front
returns-in_default-clause-copied c = sym (from_entry_none 0 _)
