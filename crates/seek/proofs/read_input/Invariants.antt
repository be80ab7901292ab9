-- `seek::read_input` meets its contract: it reads only where the buffer has room. The loop keeps
-- the count within the buffer; its measure is the room left. Assumes nothing.
use Rattle.std.proofs.Common.{length, ◌-◌, ◌≤◌}
use Rattle.seek.proofs.read_input.Given as goal

-- the count is within the buffer
abbrev pub invariant-loop-bytes : goal.invariant-loop-bytes
invariant-loop-bytes g l = l.bytes ≤ length l.buf

-- the room left
abbrev pub decreases-loop-bytes : goal.decreases-loop-bytes
decreases-loop-bytes g l = length l.initial.buf - l.bytes
