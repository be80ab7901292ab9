-- Of whole calls: a ring, and the ring started r bytes later, searched, converted and priced
-- (`SearchesRotated`, `StatusRotated`, `PricesRotated`).
-- A call that is taken answers and leaves what the definitions give, and what is promised of these does the rest; its status goes by lengths alone.
use mathlib.Core.Path.{refl, sym, ◌∙◌}
use Rattle.convert.proofs.Paired.{search_nonempty, frames_by, ones_by, every_search_exact, status_by_lengths}
use Rattle.convert.specs.Paired.{EverySearchExact, StatusByLengths}
use Rattle.price.proofs.Calls.{price_nonempty, pence_by}
use Rattle.rotation_laws.proofs.Frames.{frames_rotated, cost_rotated}
use Rattle.rotation_laws.proofs.Occurrences.{occurrences_rotated, number_rotated, bound_rotated}
use Rattle.rotation_laws.proofs.Rotated.{length_rotated, ones_rotated}
use Rattle.rotation_laws.specs.Calls.{SearchesRotated, StatusRotated, PricesRotated}
use Rattle.rotation_laws.specs.Promises.{rotated, OccurrencesRotated, NumberRotated, FramesRotated, OnesRotated, CostRotated, BoundRotated}

pub searches_rotated : SearchesRotated
unfolding SearchesRotated EverySearchExact OccurrencesRotated NumberRotated FramesRotated OnesRotated BoundRotated
searches_rotated r q w t h c d s e s' e' =
    let u = rotated r t in
    let x = every_search_exact q w t c s e in
    let y = every_search_exact q w u d s' e' in
    let some = search_nonempty s e in
    record {
      occurrences_rotated = rw (x.occurrences_found, y.occurrences_found) (occurrences_rotated r w t some h);
      same_number = rw (x.occurrences_counted, y.occurrences_counted) (number_rotated r w t some h);
      frames_rotated = λ v v'. rw (frames_by v e, rw length_rotated at (frames_by v' e')) (frames_rotated r q w t some h);
      same_ones = λ v v'. rw (ones_by v e, ones_by v' e') (ones_rotated r t);
      same_period = y.period_answered ∙ sym x.period_answered;
      same_bound = rw (x.bound_answered, y.bound_answered) (bound_rotated r w t some h).0;
      few = x.few;
      few_rotated = y.few;
    }

pub status_rotated : StatusRotated
unfolding StatusRotated StatusByLengths
status_rotated r q w t c d same =
    let (search, convert) = status_by_lengths q q w w t (rotated r t) c d refl (length_rotated r t) same in
    (search, convert (λ h. h, λ h. h))

pub prices_rotated : PricesRotated
unfolding PricesRotated CostRotated
prices_rotated r q w t c d p p' = rw (pence_by p, pence_by p') (cost_rotated r q w t (price_nonempty p))
