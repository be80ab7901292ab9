-- `frames::mark_holds` meets its contract. The loop's invariant: the frames with the holds that are left are the frames with all holds.
-- Assumes nothing.
use Rattle.std.proofs.Common.{◌≡◌, ℕ, ◌+◌, ◌%◌, ◌≤◌, ◌<◌, List, sym, ◌∙◌, arith, length, drop, get_or, set, add-one, drop-cons, drop_of_length-le}
use Rattle.frames.specs.Frames.{holds, with_holds}
use Rattle.frames.proofs.mark_holds.Goals as goal

-- a turn marks the hold of the next entry
turn :
    (x q n i : ℕ) (found frames : List ℕ) → i < length found →
    with_holds x (holds n q (drop (i + 1) found)) (set frames ((get_or found i 0 + q) % n) x) ≡ with_holds x (holds n q (drop i found)) frames
unfolding with_holds holds
turn x q n i found frames h = rw (add-one, drop-cons found i 0 h)

-- after the last entry none is left
end : (x q n i : ℕ) (found frames : List ℕ) → length found ≤ i → with_holds x (holds n q (drop i found)) frames ≡ frames
unfolding with_holds holds
end x q n i found frames h = rw (drop_of_length-le found h)

pub loop-b-preserved : goal.loop-b-preserved
loop-b-preserved c =
    rw (c.wrapped.ensures, c.from.ensures)
    (turn c.args.hold c.args.hold_offset c.args.n c.loop-b.b-index c.args.found.now c.loop-b.frames (omega arith) ∙ c.loop-b.invariant)

pub returns : goal.returns
returns c =
    sym (end c.args.hold c.args.hold_offset c.args.n c.loop-b.b-index c.args.found.now c.loop-b.frames (omega arith)) ∙ c.loop-b.invariant
