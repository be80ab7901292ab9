use Rattle.std.proofs.Common.{◌≡◌, ◌-◌, ◌&&◌, length, get_or}
use Rattle.tables.specs.Least.{all_from}
use Rattle.restore_conversions.proofs.all_frames.Given as goal
use Rattle.restore_conversions.specs.Restored.{is_frame}

-- all that were tested are frames, and all that are left, just where all are
abbrev pub invariant-loop-frame : goal.invariant-loop-frame
invariant-loop-frame l =
    l.all && all_from (length l.frames - l.frame-index) l.frame-index (λ i. is_frame l.count (get_or l.frames i 0))
    ≡ all_from (length l.frames) 0 (λ i. is_frame l.count (get_or l.frames i 0))
