-- Both round trips by calls with a table of rules, and equal frames of two conversions
-- (`CallsInjective`), for every outcome. The second call meets no condition of refusal, since the
-- first met none; so both leave what the definitions give, whose round trips do the rest.
use mathlib.Core.List.{List}
use mathlib.Core.Path.{◌≡◌, refl, sym, ◌∙◌, ap}
use Prim.Native.Nat.{ℕ}
use native.Mathlib.Omega.{arith}
use borrow.Author.Tests.{le-ltb, ltb-false}
use lib.ListN.{length}
use Rattle.answers.proofs.Fronts.{in_front_take}
use Rattle.answers.specs.Answers.{if_done}
use Rattle.answers.specs.declared.Answer.{Answer}
use Rattle.tables.specs.Buffers.{lengths}
use Rattle.restore_laws.specs.Calls.{RestoredTo, ConvertedTo}
use Rattle.rules.proofs.Taken.{table_inside, taken_refusals}
use Rattle.rules.proofs.Tested.{table_taken, table_some}
use Rattle.rules.specs.Rules.{Rule, Inside, rules_of, table_size}
use Rattle.rules_answers.proofs.Answered.{done_only}
use Rattle.rules_answers.specs.Answers.{rules_answered}
use Rattle.rules_answers.specs.declared.RulesAnswer.{RulesAnswer}
use Rattle.rules_frames.proofs.Marked.{length_rule_frames}
use Rattle.rules_frames.specs.RuleFrames.{rule_frames}
use Rattle.rules_status.proofs.Measured.{taken_search, search_taken}
use Rattle.convert_rules.proofs.Converted.{ConversionTaken, frames_by}
use Rattle.convert_rules.specs.ConvertRules.{convert_rules_status, convert_rules_status_of, rule_frames_left}
use Rattle.convert_rules.specs.Paired.{RulesCall, RulesTaken, ConvertsRules}
use Rattle.rules_conversions.proofs.Restored.{length_restored, converted_restored, conversion_injective}
use Rattle.rules_conversions.proofs.Restored.{restored_converted, frames_pass}
use Rattle.rules_conversions.specs.Conversions.{restored}
use Rattle.rules_conversions.specs.Promises.{ConvertedRestored, ConversionInjective, RestoredConverted}
use Rattle.restore_rules.proofs.Taken.{restorable, restorable_done, status_of}
use Rattle.restore_rules.specs.RestoreRules.{restore_rules_status, restored_left, RestoreRulesOutcomeOf}
use Rattle.rules_restore_laws.specs.Calls.{CallsConvertedRestored, CallsInjective, CallsRestoredConverted}

-- `restore_rules` that is done leaves what is put back
restored_to :
    {rs : List Rule} {gs text text' : List ℕ} {r : Answer} → RestoreRulesOutcomeOf 0 rs gs text text' r →
    RestoredTo (restored rs gs) text' r
unfolding restored_left if_done
restored_to {rs} {gs} {text} o =
    record { done = status_of o; text = rw o.text_left (in_front_take (restored rs gs) text _ refl) }

-- the status of a call
abbrev status_by : (x t : List ℕ) → RulesCall → ℕ
status_by x t c = convert_rules_status_of x t c.lent.tables c.lent.found c.lent.frames

-- `convert_rules` that is done leaves the frames
converted_to :
    (x t : List ℕ) (c : RulesCall) → status_by x t c ≡ 0 → ConvertsRules x t c →
    ConvertedTo (rule_frames (rules_of x) t) c.answer.status c.left.frames
unfolding rules_answered rule_frames_left if_done
converted_to x t c done h =
    record {
      done = ap (λ (a : RulesAnswer). a.status) (rw done at h.answer);
      frames = rw (h.moves_and_holds_left, done) (in_front_take (rule_frames (rules_of x) t) c.lent.frames _ refl);
    }

-- of a conversion that is taken: none of its conditions holds, and each hold offset is in its
-- pattern
module _
    (x t : List ℕ) (c : RulesCall) (size : length x ≡ table_size) (h : ConvertsRules x t c) (e : RulesTaken c) where
  taken_by : ConversionTaken x t (lengths c.lent.tables) (length c.lent.found) (length c.lent.frames)
  unfolding convert_rules_status
  taken_by =
      let m = search_taken x t (lengths c.lent.tables) _ size (omega arith) (done_only _ _ h.answer e) in
      record {
        measured = m;
        found_room = ltb-false _ _ m.own_room.0;
        frames_room = ltb-false _ _ m.own_room.1.0;
      }

  inside_by : Inside (rules_of x)
  inside_by = table_inside x taken_by.measured.table

pub calls_converted_restored : CallsConvertedRestored
unfolding CallsConvertedRestored ConvertedRestored
calls_converted_restored x t c size ht h e text text' r o room =
    let rs = rules_of x in
    let long = length_rule_frames rs t in
    let taken = (taken_by x t c size h e).measured in
    let inside = inside_by x t c size h e in
    let again = restorable_done x (rule_frames rs t) (length text) record {
      all = record {
        table = taken_refusals x taken.table taken.some;
        text = rw long taken.text;
        room = rw long room;
      };
      conversion = frames_pass rs t ht inside taken.once;
    } in
    rw (converted_restored rs t ht inside) at (restored_to (rw again at (rw (frames_by x h e) at o)))

pub calls_injective : CallsInjective
unfolding CallsInjective ConversionInjective
calls_injective x t u c d size b b' h e h' e' same =
    conversion_injective (rules_of x) t u b b' (inside_by x t c size h e)
    (sym (frames_by x h e) ∙ same ∙ frames_by x h' e')

pub calls_restored_converted : CallsRestoredConverted
unfolding CallsRestoredConverted RestoredConverted convert_rules_status
calls_restored_converted x gs text text' r size o e c h room =
    let rs = rules_of x in
    let long = length_restored rs gs in
    let done : restore_rules_status x gs (length text) ≡ 0 = sym (status_of o) ∙ e in
    let job = restorable x gs (length text) done in
    let left = rw long at (restored_to (rw done at o)).text in
    let (converts, once) = restored_converted rs gs job.conversion in
    let again : status_by x (restored rs gs) c ≡ 0 = taken_search x (restored rs gs) _ _ record {
      table = table_taken x size job.all.table;
      some = table_some x job.all.table;
      text = rw long job.all.text;
      tables_room = room.tables;
      own_room = (
        le-ltb (length c.lent.found) (length (restored rs gs)) (rw long room.found),
        (le-ltb (length c.lent.frames) (length (restored rs gs)) (rw long room.frames), tt),
      );
      once = once;
    } in
    rw converts at (converted_to x (restored rs gs) c again (rw left at h))
