-- `prepare::write_order_and_shifts` meets its contract: each call leaves what the next ones ask
-- for, and the last three write the buffers. Assumes nothing.
use Rattle.std.proofs.Common.{◌≡◌, ◌+◌, ℕ, ℤ, List, length}
use Rattle.answers.proofs.Fronts.{in_front_take}
use Rattle.answers.specs.Buffers.{in_front}
use Rattle.prepare.proofs.write_order_and_shifts.Goals as goal
use Rattle.tables.proofs.Order.{stored_order_length}
use Rattle.tables.specs.Buffers.{PatternTaken}
use Rattle.tables.specs.Tables.{stored_order}
use Rattle.tables_delta2.specs.Links.{OrderStored}

in_buffer :
    {w : List ℕ} {order' : List ℤ} → PatternTaken w → (order : List ℤ) → order' ≡ in_front (stored_order w) order → OrderStored w order'
in_buffer {w} taken order e =
    record { taken = taken; stored = rw e (in_front_take (stored_order w) order (length w + 1) (stored_order_length w taken.some)) }

pub write_delta2-requires-clause-ordered : goal.write_delta2-requires-clause-ordered
write_delta2-requires-clause-ordered c = in_buffer c.requires.taken _ c.write_order.ensures
