use Rattle.std.proofs.Common.{◌≡◌, drop}
use Rattle.frames.specs.Frames.{holds, with_holds}
use Rattle.frames.proofs.mark_holds.Given as goal

-- the frames with the holds that are left are the frames with all holds
abbrev pub invariant-loop-b : goal.invariant-loop-b
invariant-loop-b l =
    with_holds l.hold (holds l.n l.hold_offset (drop l.b-index l.found)) l.frames
    ≡ with_holds l.hold (holds l.n l.hold_offset l.found) l.initial.frames
