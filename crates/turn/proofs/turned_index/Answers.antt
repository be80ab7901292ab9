-- `turn::turned_index` meets its contract: its test is that of the ways that reverse.
-- Assumes nothing.
use Rattle.std.proofs.Common.{refl}
use Rattle.turn.specs.Turned.{turned_index}
use Rattle.turn.proofs.turned_index.Goals as goal

pub returns-then-reverses : goal.returns-then-reverses
unfolding turned_index
returns-then-reverses c = rw (← c.if-reverses.ensures) refl

pub returns-else-reverses : goal.returns-else-reverses
unfolding turned_index
returns-else-reverses c = rw (← c.if-reverses.ensures) refl
