-- `rules::held_of` meets its contract: the byte is inside the pattern, so that it is the pattern's.
-- Assumes nothing.
use Rattle.rules.proofs.Listed.{held_stands}
use Rattle.rules.proofs.held_of.Goals as goal

pub returns : goal.returns
returns c = rw c.hold_offset_of.ensures (held_stands c.args.rules.now c.args.i c.requires.inside)
