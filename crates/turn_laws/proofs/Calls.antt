-- Of whole calls: a job, and what `turn` answers and leaves of it, searched, converted, priced and
-- counted. A call that answers 0 is done: its outcome is what the definitions give, and what is
-- promised of these does the rest. Its status goes by lengths.
use mathlib.Core.List.{List}
use mathlib.Core.Path.{◌≡◌, sym, ◌∙◌, ap}
use Prim.Native.Nat.{ℕ, ◌≤◌, ◌<◌}
use native.Mathlib.Omega.{arith}
use lib.ListN.{length}
use Rattle.answers.specs.Bytes.{Bytes}
use Rattle.ones.specs.Ones.{count_answer}
use Rattle.convert.proofs.Paired.{frames_by, ones_by, every_search_exact, status_by_lengths}
use Rattle.convert.specs.Paired.{Call, CallTaken, AnySearch, EverySearchExact, StatusByLengths}
use Rattle.turn.proofs.Calls.{turn_taken, turn_done}
use Rattle.turn.proofs.Turned.{index_inside, length_turned}
use Rattle.turn.specs.Turned.{turned, turned_index}
use Rattle.price.proofs.Calls.{pence_by}
use Rattle.turn_laws.proofs.Frames.{frames_turned, ones_turned, cost_turned}
use Rattle.turn_laws.proofs.Occurrences.{occurrences_turned, number_turned, period_turned, bound_turned}
use Rattle.turn_laws.specs.Calls.{AlikeTurned, SearchesTurned, StatusTurned, PricesTurned, CountsTurned}
use Rattle.turn_laws.specs.Promises.{OccurrencesTurned, NumberTurned, PeriodTurned, BoundTurned, FramesTurned, OnesTurned, CostTurned}

-- what a search of the job and a search of the job turned, both taken, have in common
alike :
    (way q : ℕ) (w t : List ℕ) → Bytes w → Bytes t → q < length w →
    let q' = turned_index way (length w) q in
    (c d : Call) → AnySearch q w t c → CallTaken c → AnySearch q' (turned way w) (turned way t) d → CallTaken d →
    AlikeTurned way q w t q' (turned way w) (turned way t) c d
unfolding EverySearchExact OccurrencesTurned NumberTurned FramesTurned OnesTurned PeriodTurned BoundTurned
alike way q w t hw ht inside c d s e s' e' =
    let x = every_search_exact q w t c s e in
    let y = every_search_exact _ (turned way w) (turned way t) d s' e' in
    let some : 1 ≤ length w = omega arith in
    let same = occurrences_turned way w t some hw ht in
    record {
      occurrences_turned = rw (x.occurrences_found, y.occurrences_found) same;
      same_number = rw (x.occurrences_counted, y.occurrences_counted) (number_turned way w t some hw ht);
      frames_turned = λ h h'.
          rw (frames_by h e, rw length_turned at (frames_by h' e')) (frames_turned way q w t hw ht inside);
      same_ones = λ h h'. rw (ones_by h e, ones_by h' e') (ones_turned way t ht);
      same_period = y.period_answered ∙ period_turned way w hw ∙ sym x.period_answered;
      same_bound = y.bound_answered ∙ bound_turned way w t some hw ht ∙ sym x.bound_answered;
    }

pub searches_turned : SearchesTurned
unfolding SearchesTurned
searches_turned way q w t p p' x x' r hw ht o e =
    let left = turn_done o e in
    rw (left.hold_offset, rw length_turned at left.pattern, rw length_turned at left.text)
    (alike way q w t hw ht (turn_taken o e).limits.hold_offset)

pub status_turned : StatusTurned
unfolding StatusTurned StatusByLengths
status_turned way q w t c d same =
    let (pattern, text) : (length (turned way w) ≡ length w) × (length (turned way t) ≡ length t) = (length_turned way w, length_turned way t) in
    let (search, convert) = status_by_lengths q (turned_index way (length w) q) w (turned way w) t (turned way t) c d pattern text same in
    (search, λ inside. convert (λ h. inside, λ h. rw pattern (index_inside way (length w) q inside)))

pub prices_turned : PricesTurned
unfolding PricesTurned CostTurned
prices_turned way q w t p p' x x' r hw ht o e c d priced priced' =
    let left = turn_done o e in
    let cost = rw (left.hold_offset, rw length_turned at left.pattern, rw length_turned at left.text) at (pence_by priced') in
    cost ∙ cost_turned way q w t hw ht (turn_taken o e).limits.hold_offset ∙ sym (pence_by priced)

-- counting answers the same of a text turned
pub same_count : (way : ℕ) (t : List ℕ) → Bytes t → count_answer (turned way t) ≡ count_answer t
unfolding count_answer OnesTurned
same_count way t h = rw (length_turned, ones_turned way t h)

pub counts_turned : CountsTurned
unfolding CountsTurned
counts_turned way q w t p p' x x' r ht o e = ap count_answer (rw length_turned at (turn_done o e).text) ∙ same_count way t ht
