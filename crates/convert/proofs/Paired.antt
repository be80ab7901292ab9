-- Demand 3 of whole calls: every search that is taken is exact (`EverySearchExact`), and two that meet the same bytes are alike (`Paired`).
-- A call that answers status 0 has status 0, and then its outcome says what it answers and leaves; the steps do the rest.
-- And the ones answered (`OnesAsCounted`), and what a status goes by (`StatusByLengths`).
use mathlib.Core.List.{List, [], ◌∷◌}
use mathlib.Core.Logic.{◌↔◌, ⊎_elim}
use mathlib.Core.Path.{◌≡◌, refl, sym, ◌∙◌, ap}
use Prim.Native.Nat.{ℕ, ◌≤◌, ◌<◌}
use native.Mathlib.Omega.{arith}
use borrow.Author.Tests.{le-ltb, le-leb, lt-leb}
use lib.ListN.{length, take}
use Rattle.answers.proofs.Answered.{status_answered, done_only}
use Rattle.answers.proofs.Bytes.{bytes_entry}
use Rattle.answers.proofs.Fronts.{in_front_take}
use Rattle.answers.proofs.Refusals.{none_done}
use Rattle.answers.specs.Answers.{converted, if_done, answered}
use Rattle.answers.specs.Buffers.{in_front}
use Rattle.answers.specs.Bytes.{Bytes}
use Rattle.answers.specs.Refusals.{text_refusal, job_refusals}
use Rattle.answers.specs.declared.Answer.{Answer}
use Rattle.tables.proofs.Cases.{le_or_lt}
use Rattle.tables.specs.declared.TableLengths.{TableLengths}
use Rattle.tables.specs.Tables.{period}
use Rattle.steps.proofs.Bound.{few_comparisons}
use Rattle.steps.proofs.Decide.{same_texts}
use Rattle.steps.proofs.Text.{span_same}
use Rattle.steps.specs.Bound.{search_bound}
use Rattle.steps.specs.Occurrences.{occurrences}
use Rattle.steps.specs.Promises.{FewComparisons}
use Rattle.search.proofs.Searched.{search_fit}
use Rattle.search.specs.Search.{search_done, found_left, SearchFit}
use Rattle.steps.specs.Steps.{comparisons}
use Rattle.steps.specs.Text.{shown, span}
use Rattle.ring.specs.Ring.{ascending}
use Rattle.frames.proofs.Holds.{length_frames, holds_listed, holds_apart}
use Rattle.convert.proofs.Taken.{conversion_taken}
use Rattle.convert.specs.Convert.{convert_status, convert_done, convert_status_of, frames_left}
use Rattle.frames.specs.Frames.{holds, frames}
use Rattle.ones.specs.Ones.{ones_of, count_status, count_answer}
use Rattle.convert.specs.Paired.{Call, Converts, CallTaken, AnySearch, by_search, by_convert, found_by, holds_by, frames_held, EverySearchExact, OnesAsCounted, Paired, StatusByLengths}

-- what a search that is taken gives
record Worked (w t : List ℕ) (c : Call) : Type 0 where
  nonempty : 1 ≤ length w
  occurrences_counted : c.answer.occurrences ≡ length (occurrences w t)
  comparisons_counted : c.answer.comparisons ≡ length (comparisons w t)
  period_answered : c.answer.period ≡ period w
  bound_answered : c.answer.bound ≡ search_bound w t
  occurrences_left : c.left.found ≡ in_front (occurrences w t) c.lent.found

module _ {w t : List ℕ} {c : Call} where
  -- from a call's status, its answer, whatever ones that has, and its buffer of occurrences
  worked :
      (s ones : ℕ) → (s ≡ 0 → 1 ≤ length w) → c.answer ≡ answered s (converted (search_done w t) ones) →
      c.left.found ≡ found_left s w t c.lent.found → CallTaken c → Worked w t c
  unfolding if_done answered found_left
  worked s ones limits answer left e =
      let done = done_only s (converted (search_done w t) ones) answer e in
      let answered = rw done at answer in
      record {
        nonempty = limits done;
        occurrences_counted = ap (λ (x : Answer). x.occurrences) answered;
        comparisons_counted = ap (λ (x : Answer). x.comparisons) answered;
        period_answered = ap (λ (x : Answer). x.period) answered;
        bound_answered = ap (λ (x : Answer). x.bound) answered;
        occurrences_left = rw done at left;
      }

  search_worked : {q : ℕ} → AnySearch q w t c → CallTaken c → Worked w t c
  search_worked (by_search h) e =
      let fit : _ → SearchFit w t c.lent.tables c.lent.found = search_fit in
      worked _ 0 (λ done. (fit done).tables.taken.some) h.answer h.occurrences_left e
  search_worked (by_convert h) e =
      worked _ (ones_of t) (λ done. omega (arith, (conversion_taken done).limits.hold_offset)) h.answer h.occurrences_left e

  -- a search that is taken is for a pattern that is not empty
  pub search_nonempty : {q : ℕ} → AnySearch q w t c → CallTaken c → 1 ≤ length w
  search_nonempty s e = (search_worked s e).nonempty

  -- as many entries as are counted, in front of what the buffer held, are the occurrences
  found_right : Worked w t c → found_by c ≡ occurrences w t
  unfolding found_by
  found_right h =
      rw h.occurrences_left (in_front_take (occurrences w t) c.lent.found c.answer.occurrences (sym h.occurrences_counted))

  few : Worked w t c → c.answer.comparisons ≤ c.answer.bound
  unfolding comparisons occurrences FewComparisons
  few h = rw (h.comparisons_counted, h.bound_answered) (few_comparisons (shown t) (span w t) w h.nonempty)

  -- a conversion that is taken leaves the frames in front of its buffer
  pub frames_by : {q : ℕ} → Converts q w t c → CallTaken c → take (length t) c.left.frames ≡ frames q w t
  unfolding if_done frames_left
  frames_by {q} h e =
      rw (h.moves_and_holds_left, done_only _ _ h.answer e)
      (in_front_take (frames q w t) c.lent.frames (length t) (length_frames q w t))

  -- and answers the ones
  pub ones_by : {q : ℕ} → Converts q w t c → CallTaken c → c.answer.ones ≡ ones_of t
  unfolding if_done answered
  ones_by {q} h e =
      let done : convert_status_of q w t c.lent.tables c.lent.found c.lent.frames ≡ 0 = done_only _ _ h.answer e in
      ap (λ (a : Answer). a.ones) (rw done at h.answer)

  -- just its holds are holds among its frames
  frames_right :
      {q : ℕ} → Converts q w t c → CallTaken c → Bytes t → frames_held (length t) c ≡ ascending (length t) (holds (length t) q (occurrences w t))
  unfolding frames_held
  frames_right {q} h e bytes = rw (frames_by h e) (holds_listed q w t (bytes_entry t bytes))

pub every_search_exact : EverySearchExact
unfolding EverySearchExact holds_by
every_search_exact q w t c s e =
    let h = search_worked s e in
    record {
      occurrences_found = found_right h;
      occurrences_counted = h.occurrences_counted;
      comparisons_counted = h.comparisons_counted;
      period_answered = h.period_answered;
      bound_answered = h.bound_answered;
      few = few h;
      frames_exact = λ converts bytes. rw (found_right h) (frames_right converts e bytes);
      holds_counted = λ converts bytes.
          rw (frames_right converts e bytes, h.occurrences_counted) (holds_apart q w t h.nonempty);
    }

pub paired : Paired
unfolding Paired EverySearchExact holds_by
paired q w t u c d s e s' e' l same =
    let x = every_search_exact q w t c s e in
    let y = every_search_exact q w u d s' e' in
    let (compared, listed) = same_texts w t u (search_worked s e).nonempty l same in
    let found : found_by d ≡ found_by c = rw (x.occurrences_found, y.occurrences_found) listed in
    record {
      same_comparisons = compared;
      same_occurrences = found;
      same_number = y.occurrences_counted ∙ ap length listed ∙ sym x.occurrences_counted;
      same_holds = rw (l, found);
      same_held = λ h b h' b'. y.frames_exact h' b' ∙ rw (l, found) (sym (x.frames_exact h b));
      same_count = rw (x.comparisons_counted, y.comparisons_counted, compared);
      same_period = y.period_answered ∙ sym x.period_answered;
      same_bound = rw (x.bound_answered, y.bound_answered, listed, span_same w t u l);
    }

pub ones_as_counted : OnesAsCounted
unfolding OnesAsCounted count_answer count_status if_done answered
ones_as_counted q w t c h e =
    let few = (conversion_taken (done_only _ _ h.answer e)).limits.text in
    rw (none_done (text_refusal (length t) ∷ []) (le-ltb _ _ few, tt)) (ones_by h e)

-- the status goes by whether the hold offset is in the pattern
hold_same :
    (m q q' n found frames : ℕ) (l : TableLengths) → (q' < m) ↔ (q < m) →
    convert_status m q' n l found frames ≡ convert_status m q n l found frames
unfolding convert_status job_refusals
hold_same m q q' n found frames l same =
    ⊎_elim
    (λ h. rw (le-leb m q h, le-leb m q' (⊎_elim (λ h'. h') (λ h'. absurd (omega (arith, same.0 h'))) (le_or_lt m q'))))
    (λ h. rw (lt-leb m q h, lt-leb m q' (same.1 h)))
    (le_or_lt m q)

pub status_by_lengths : StatusByLengths
unfolding StatusByLengths
status_by_lengths q q' w w' t t' c d pattern text same = (
  λ h h'.
      status_answered _ (search_done w' t') h'.answer refl
      ∙ rw (same.tables, same.found, pattern, text) (sym (status_answered _ (search_done w t) h.answer refl)),
  λ inside h h'.
      status_answered _ (convert_done w' t') h'.answer refl
      ∙ rw (same.tables, same.found, same.frames, text, pattern, hold_same (length w) q q' _ _ _ _ (rw pattern at inside))
      (sym (status_answered _ (convert_done w t) h.answer refl)),
)
