-- Of whole calls: the pence are those of the frames that a conversion leaves (`FramesPriced`), the
-- occurrences go by the comparisons (`PricesPaired`), and status and buffers are those of a search
-- (`AsBySearch`). An outcome is what the definitions give for its status.
use mathlib.Core.List.{List}
use mathlib.Core.Path.{◌≡◌, refl, sym, ◌∙◌, ap}
use Prim.Native.Nat.{ℕ, ◌≤◌, ◌<◌}
use native.Mathlib.Omega.{arith}
use borrow.Author.Tests.{lt-leb}
use lib.ListN.{length, take}
use Rattle.answers.proofs.Answered.{status_answered}
use Rattle.answers.proofs.Fronts.{in_front_take}
use Rattle.answers.specs.Answers.{if_done}
use Rattle.answers.specs.Refusals.{first_of, job_refusals}
use Rattle.tables.specs.Buffers.{Tables}
use Rattle.tables.specs.declared.TableLengths.{TableLengths}
use Rattle.steps.proofs.Decide.{same_texts}
use Rattle.steps.specs.Occurrences.{occurrences}
use Rattle.search.specs.Search.{search_status, search_status_of, search_done, found_left}
use Rattle.convert.proofs.Paired.{frames_by}
use Rattle.price.proofs.Priced.{price_taken}
use Rattle.price.specs.Price.{job_cost, price_status, price_status_of, price_answer, PriceOutcomeOf}
use Rattle.price.specs.Promises.{PriceCall, Priced, FramesPriced, PricesPaired, AsBySearch}
use Rattle.price.specs.declared.PriceAnswer.{PriceAnswer}

status_of :
    {s q : ℕ} {w t : List ℕ} {lent left : Tables} {found found' : List ℕ} {r : PriceAnswer} →
    PriceOutcomeOf s q w t lent left found found' r → r.answer.status ≡ s
unfolding price_answer
status_of o = ap (λ (a : PriceAnswer). a.answer.status) o.answer

-- a call that is taken
module _ {q : ℕ} {w t : List ℕ} {c : PriceCall} (p : Priced q w t c) where
  status_0 : price_status_of q w t c.lent c.found ≡ 0
  status_0 = sym (status_of p.allowed) ∙ p.taken

  -- it is for a pattern that is not empty, answers the cost and leaves the occurrences
  pub price_nonempty : 1 ≤ length w
  price_nonempty = omega (arith, (price_taken status_0).limits)

  pub pence_by : c.answer.pence ≡ job_cost q w t
  unfolding if_done price_answer
  pence_by = ap (λ (a : PriceAnswer). a.pence) (rw status_0 at p.allowed.answer)

  occurrences_by : take (length (occurrences w t)) c.found' ≡ occurrences w t
  unfolding if_done found_left
  occurrences_by = rw (p.allowed.occurrences_left, status_0) (in_front_take (occurrences w t) c.found _ refl)

pub frames_priced : FramesPriced
unfolding FramesPriced
frames_priced q w t p priced c h e = rw (frames_by h e) (pence_by priced)

pub prices_paired : PricesPaired
unfolding PricesPaired
prices_paired q w t u c d p p' size same =
    let (compared, listed) = same_texts w t u (price_nonempty p) size same in
    (ap length listed, rw listed at (occurrences_by p') ∙ sym (occurrences_by p))

-- 5 does not hold
same_status : (m q n found : ℕ) (l : TableLengths) → q < m → price_status m q n l found ≡ search_status m n l found
unfolding price_status search_status first_of job_refusals
same_status m q n found l h = rw (lt-leb m q h)

pub as_by_search : AsBySearch
unfolding AsBySearch
as_by_search q w t lent left searched found found' listed r a inside o h =
    let priced : PriceOutcomeOf (search_status_of w t lent found) q w t lent left found found' r = rw (same_status (length w) q _ _ _ inside) at o in (
      status_of priced ∙ sym (status_answered _ (search_done w t) h.answer refl),
      (priced.tables ∙ sym h.tables, priced.occurrences_left ∙ sym h.occurrences_left),
    )
