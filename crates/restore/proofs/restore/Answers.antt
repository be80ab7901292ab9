-- `restore::restore` meets its contract: past the refusals the frames are put back into the first
-- entries of the buffer. Assumes nothing.
use Rattle.std.proofs.Common.{List, ℕ, zero, suc, ◌≡◌, refl, sym}
use Rattle.answers.proofs.Reasons.{numbered}
use Rattle.answers.specs.Answers.{status_only, if_done}
use Rattle.answers.specs.Buffers.{in_front}
use Rattle.answers.specs.declared.Answer.{Answer}
use Rattle.restore_conversions.proofs.Restored.{all_frames}
use Rattle.restore_conversions.specs.Restored.{restored}
use Rattle.answers.proofs.Answered.{zeros}
use Rattle.restore.proofs.Taken.{restorable}
use Rattle.restore.proofs.restore.Goals as goal
use Rattle.restore.specs.Restore.{restored_left, RestoreOutcomeOf}

-- a refused call answers its status and leaves the buffer
refused : (s q : ℕ) (w gs text : List ℕ) (r : Answer) → (s ≡ 0 → ⊥) → r ≡ status_only s → RestoreOutcomeOf s q w gs text text r
unfolding if_done restored_left
refused zero q w gs text r h e = absurd (h refl)
refused (suc s) q w gs text r h e = record { answer = e; text_left = refl }

-- a call that is done leaves the frames put back
done :
    (q : ℕ) (w gs text text' : List ℕ) (r : Answer) → r ≡ status_only 0 → text' ≡ in_front (restored q w gs) text →
    RestoreOutcomeOf 0 q w gs text text' r
unfolding if_done restored_left
done q w gs text text' r e f = record { answer = e; text_left = f }

pub returns-in-Err : goal.returns-in-Err
returns-in-Err c = rw (← c.in-Err.ensures) (refused _ _ _ _ _ _ (numbered _) c.from.ensures)

-- past the refusals the job is within the limits, the buffer has room and the frames are a
-- conversion
pub bounds-pattern-hold_offset : goal.bounds-pattern-hold_offset
bounds-pattern-hold_offset c = (restorable _ _ _ _ (sym c.in_default.ensures)).limits.hold_offset

pub write_restored-requires-clause-frames : goal.write_restored-requires-clause-frames
write_restored-requires-clause-frames c = all_frames _ _ _ (restorable _ _ _ _ (sym c.in_default.ensures)).conversion

pub write_restored-requires-clause-room : goal.write_restored-requires-clause-room
write_restored-requires-clause-room c = (restorable _ _ _ _ (sym c.in_default.ensures)).room

pub returns : goal.returns
unfolding restored
returns c =
    rw (← c.in_default.ensures) (done _ _ _ _ _ _ (zeros c.default.ensures) c.write_restored.ensures)
