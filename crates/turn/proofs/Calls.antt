-- The same turn twice by calls (`CallsTurnedTwice`), for every outcome that their contracts allow.
-- If a call answers 0, no condition holds, so its buffers start with what the definitions give; the definitions' round trip does the rest.
use mathlib.Core.List.{List}
use mathlib.Core.Path.{◌≡◌, refl, sym, ap, ◌∙◌}
use Prim.Native.Nat.{ℕ}
use lib.ListN.{length}
use Rattle.answers.proofs.Fronts.{in_front_take}
use Rattle.answers.specs.Answers.{if_done}
use Rattle.turn.proofs.Taken.{Turnable, turnable, turnable_done}
use Rattle.turn.proofs.Turned.{length_turned, index_inside, index_turned_twice, turned_twice}
use Rattle.turn.specs.Promises.{TurnedTwice, IndexTurnedTwice, TurnedTo, CallsTurnedTwice}
use Rattle.turn.specs.Turn.{turn_status, turn_answer, turned_left, TurnOutcomeOf, TurnOutcome}
use Rattle.turn.specs.Turned.{turned, turned_index}
use Rattle.turn.specs.declared.TurnAnswer.{TurnAnswer}

module _ {way q : ℕ} {w t p p' x x' : List ℕ} {r : TurnAnswer} where
  turn_status_of : {s : ℕ} → TurnOutcomeOf s way q w t p p' x x' r → r.answer.status ≡ s
  unfolding turn_answer
  turn_status_of o = ap (λ (z : TurnAnswer). z.answer.status) o.answer

  turned_to : TurnOutcomeOf 0 way q w t p p' x x' r → TurnedTo (turned_index way (length w) q) (turned way w) (turned way t) p' x' r
  unfolding turn_answer turned_left if_done
  turned_to o =
      record {
        done = turn_status_of o;
        hold_offset = rw o.answer;
        pattern = rw o.pattern_left (in_front_take (turned way w) p _ refl);
        text = rw o.text_left (in_front_take (turned way t) x _ refl);
      }

  module _ (o : TurnOutcome way q w t p p' x x' r) (e : r.answer.status ≡ 0) where
    status_0 : turn_status way (length w) q (length t) (length p) (length x) ≡ 0
    status_0 = sym (turn_status_of o) ∙ e

    -- a turn that is done was within the limits, and has the job turned
    pub turn_taken : Turnable way (length w) q (length t) (length p) (length x)
    turn_taken = turnable _ _ _ _ _ _ status_0

    pub turn_done : TurnedTo (turned_index way (length w) q) (turned way w) (turned way t) p' x' r
    turn_done = turned_to (rw status_0 at o)

pub calls_turned_twice : CallsTurnedTwice
unfolding CallsTurnedTwice TurnedTwice IndexTurnedTwice
calls_turned_twice way q w t p p' x x' r hw ht o e u u' v v' s i lu lv =
    let m = length_turned way w in
    let n = length_turned way t in
    let job = turn_taken o e in
    let left = turn_done o e in
    let q' = index_inside way (length w) q job.limits.hold_offset in
    let given = rw (left.hold_offset, rw m at left.pattern, rw n at left.text) at i in
    let again =
    turnable_done way (length (turned way w)) (turned_index way (length w) q) (length (turned way t)) (length u) (length v) record {
      known = job.known;
      limits = rw (m, n) record { hold_offset = q'; pattern = job.limits.pattern; text = job.limits.text };
      pattern_room = rw m lu;
      text_room = rw n lv;
    } in
    rw (m, index_turned_twice way (length w) q job.limits.hold_offset, turned_twice way w hw, turned_twice way t ht)
    at (turned_to (rw again at given))
