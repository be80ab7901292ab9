-- `turn::turn` meets its contract: past the refusals pattern and text are written turned, each in
-- front of its buffer. Assumes nothing.
use Rattle.std.proofs.Common.{◌≡◌, ◌<◌, ℕ, zero, suc, List, refl, sym, arith, length}
use native.Mathlib.Nat.{le_trans}
use Rattle.answers.proofs.Answered.{zeros}
use Rattle.answers.proofs.Reasons.{numbered}
use Rattle.answers.specs.Answers.{status_only, if_done}
use Rattle.answers.specs.Buffers.{in_front}
use Rattle.turn.proofs.Taken.{Turnable, turnable}
use Rattle.turn.proofs.Turned.{index_inside}
use Rattle.turn.specs.Turn.{turn_status, turn_answer, turned_left, TurnOutcomeOf}
use Rattle.turn.specs.Turned.{turned, turned_index}
use Rattle.turn.specs.declared.TurnAnswer.{TurnAnswer}
use Rattle.turn.proofs.turn.Goals as goal

abbrev answer_with : (status q : ℕ) → TurnAnswer
answer_with s q = record { answer = status_only s; q = q }

-- a refused call answers its status and leaves the buffers
refused :
    (s way q : ℕ) (w t p x : List ℕ) (r : TurnAnswer) → (s ≡ 0 → ⊥) → r ≡ answer_with s 0 →
    TurnOutcomeOf s way q w t p p x x r
unfolding if_done turn_answer turned_left
refused zero way q w t p x r h e = absurd (h refl)
refused (suc s) way q w t p x r h e = record { answer = e; pattern_left = refl; text_left = refl }

-- a call that is done answers the turned hold offset and leaves pattern and text turned
done :
    (way q : ℕ) (w t p p' x x' : List ℕ) (r : TurnAnswer) → r ≡ answer_with 0 (turned_index way (length w) q) →
    p' ≡ in_front (turned way w) p → x' ≡ in_front (turned way t) x →
    TurnOutcomeOf 0 way q w t p p' x x' r
unfolding if_done turn_answer turned_left
done way q w t p p' x x' r e f g = record { answer = e; pattern_left = f; text_left = g }

-- past the refusals the way and the lengths are within their limits
in_limits : {way m q n p x : ℕ} → 0 ≡ turn_status way m q n p x → Turnable way m q n p x
in_limits e = turnable _ _ _ _ _ _ (sym e)

pub returns-in-Err : goal.returns-in-Err
returns-in-Err c = rw (← c.in-Err.ensures.status) (refused _ _ _ _ _ _ _ _ (numbered _) c.from.ensures)

pub write_turned-requires-clause-room : goal.write_turned-requires-clause-room
write_turned-requires-clause-room c = (in_limits c.in-Ok.ensures.status).pattern_room

pub write_turned-requires-2-clause-room : goal.write_turned-requires-2-clause-room
write_turned-requires-2-clause-room c = (in_limits c.in-Ok.ensures.status).text_room

pub turned_index-requires : goal.turned_index-requires
turned_index-requires c = (in_limits c.in-Ok.ensures.status).limits.hold_offset

pub overflow_cast-result : goal.overflow_cast-result
overflow_cast-result c =
    let limits = (in_limits c.in-Ok.ensures.status).limits in
    let inside : c.turned_index.result < 128 =
    rw c.turned_index.ensures (le_trans (index_inside _ _ _ limits.hold_offset) limits.pattern) in
    omega arith

pub returns : goal.returns
returns c =
    rw (← c.in-Ok.ensures.status)
    (done _ _ _ _ _ _ _ _ _
    (rw (zeros c.default.ensures, c.turned_index.ensures, c.in-Ok.ensures.read) refl)
    (rw c.in-Ok.ensures.read c.write_turned.ensures)
    (rw c.in-Ok.ensures.read c.write_turned-2.ensures))
