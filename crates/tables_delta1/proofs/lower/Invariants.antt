-- `lower` meets its contract. The loop's invariant: the entries below i are changed.
-- Assumes nothing.
use Rattle.std.proofs.Common.{get_or}
use Rattle.tables_delta1.specs.Rows.{Changed, lowered_if, allows}
use Rattle.tables_delta1.proofs.lower.Given as goal

-- the entries below i are changed
abbrev pub invariant-loop-i : goal.invariant-loop-i
invariant-loop-i l =
    Changed (λ x e. lowered_if (allows (get_or l.moved x 0) (get_or l.known x 0)) l.shift e) l.i l.initial.row l.row
