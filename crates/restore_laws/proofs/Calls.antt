-- Both round trips by calls, and equal frames of two conversions (`CallsInjective`), for every outcome.
-- The second call meets no condition of refusal, since the first met none; so both leave what the definitions give, whose round trips do the rest.
use mathlib.Core.List.{List}
use mathlib.Core.Path.{◌≡◌, refl, sym, ◌∙◌, ap}
use Prim.Native.Nat.{ℕ}
use lib.ListN.{length}
use Rattle.answers.proofs.Answered.{done_only}
use Rattle.answers.proofs.Fronts.{in_front_take}
use Rattle.answers.specs.Answers.{if_done, answered}
use Rattle.answers.specs.declared.Answer.{Answer}
use Rattle.frames.proofs.Holds.{length_frames}
use Rattle.frames.specs.Frames.{frames}
use Rattle.convert.proofs.Paired.{frames_by}
use Rattle.convert.proofs.Taken.{conversion_taken, conversion_done}
use Rattle.convert.specs.Convert.{convert_status_of}
use Rattle.convert.specs.Paired.{Call, Converts, CallTaken}
use Rattle.restore_conversions.proofs.Restored.{length_restored, converted_restored, conversion_injective, restored_converted, frames_pass}
use Rattle.restore.proofs.Taken.{restorable, restorable_done, status_of}
use Rattle.restore_conversions.specs.Promises.{ConvertedRestored, ConversionInjective, RestoredConverted}
use Rattle.restore.specs.Restore.{restore_status, restored_left, RestoreOutcomeOf}
use Rattle.restore_conversions.specs.Restored.{restored}
use Rattle.restore_laws.specs.Calls.{RestoredTo, CallsConvertedRestored, CallsInjective, ConvertedTo, CallsRestoredConverted}

-- `restore` that is done leaves what is put back
restored_to :
    {q : ℕ} {w gs text text' : List ℕ} {r : Answer} → RestoreOutcomeOf 0 q w gs text text' r → RestoredTo (restored q w gs) text' r
unfolding restored_left if_done
restored_to {q} {w} {gs} {text} o =
    record { done = status_of o; text = rw o.text_left (in_front_take (restored q w gs) text _ refl) }

-- `convert` that is done leaves the frames
converted_to :
    {q : ℕ} {w t : List ℕ} {c : Call} → convert_status_of q w t c.lent.tables c.lent.found c.lent.frames ≡ 0 →
    Converts q w t c → ConvertedTo (frames q w t) c.answer.status c.left.frames
unfolding answered if_done
converted_to {q} {w} {t} {c} done h =
    let taken : CallTaken c = ap (λ (a : Answer). a.status) (rw done at h.answer) in
    record { done = taken; frames = rw length_frames (frames_by h taken) }

pub calls_converted_restored : CallsConvertedRestored
unfolding CallsConvertedRestored ConvertedRestored
calls_converted_restored q w t c ht h e text text' r o room =
    let size = length_frames q w t in
    let done = done_only _ _ h.answer e in
    let limits = (conversion_taken done).limits in
    let left = rw size at (converted_to done h).frames in
    let again = restorable_done q w (frames q w t) (length text) record {
      limits = rw size limits;
      room = rw size room;
      conversion = frames_pass q w t ht limits.hold_offset;
    } in
    rw (converted_restored q w t ht limits.hold_offset) at (restored_to (rw again at (rw left at o)))

pub calls_injective : CallsInjective
unfolding CallsInjective ConversionInjective
calls_injective q w t u c d b b' h e h' e' same =
    let inside = (conversion_taken (done_only _ _ h.answer e)).limits.hold_offset in
    conversion_injective q w t u b b' inside (sym (frames_by h e) ∙ same ∙ frames_by h' e')

pub calls_restored_converted : CallsRestoredConverted
unfolding CallsRestoredConverted RestoredConverted
calls_restored_converted q w gs text text' r o e c h room =
    let size = length_restored q w gs in
    let done : restore_status q w gs (length text) ≡ 0 = sym (status_of o) ∙ e in
    let job = restorable q w gs (length text) done in
    let left = rw size at (restored_to (rw done at o)).text in
    let again : convert_status_of q w (restored q w gs) c.lent.tables c.lent.found c.lent.frames ≡ 0 = conversion_done record {
      limits = rw size job.limits;
      tables_room = room.tables;
      found_room = rw size room.found;
      frames_room = rw size room.frames;
    } in
    rw (restored_converted q w gs job.conversion) at (converted_to again (rw left at h))
