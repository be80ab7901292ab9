-- What pricing answers and leaves, put together from what its parts do: what it is that a job is priced, refused, and done.
-- A job is priced where it would be converted with room for its frames; its search finds as many occurrences as its frames have holds.
use mathlib.Core.List.{List}
use mathlib.Core.Path.{◌≡◌, refl, ◌∙◌}
use Prim.Native.Nat.{ℕ, zero, suc}
use native.Mathlib.Omega.{arith}
use borrow.Author.Tests.{le-ltb}
use lib.Dec.{ltb}
use lib.ListN.{length}
use Rattle.answers.proofs.Refusals.{same_past}
use Rattle.answers.specs.Answers.{status_only, if_done}
use Rattle.answers.specs.Bytes.{Bytes}
use Rattle.answers.specs.Refusals.{first_of, job_refusals}
use Rattle.answers.specs.declared.Answer.{Answer}
use Rattle.tables.proofs.Rooms.{tables_kept}
use Rattle.tables.specs.Buffers.{Tables, lengths, measured_status}
use Rattle.tables.specs.declared.TableLengths.{TableLengths}
use Rattle.search.specs.Search.{found_left, SearchOutcomeOf}
use Rattle.frames.proofs.Holds.{occurrences_few}
use Rattle.convert.proofs.Converted.{counted}
use Rattle.convert.proofs.Taken.{ConversionTaken, conversion_taken}
use Rattle.convert.specs.Convert.{convert_status}
use Rattle.price_tariff.proofs.Cost.{cost_counted}
use Rattle.price_tariff.specs.Sums.{cost_by_holds, Countable}
use Rattle.price.specs.Price.{price_status, price_answer, PriceOutcomeOf}
use Rattle.price.specs.declared.PriceAnswer.{PriceAnswer}

-- an answer by its status and its pence
abbrev answer_with : (status pence : ℕ) → PriceAnswer
answer_with s pence = record { answer = status_only s; pence = pence }

-- what is measured is the status of pricing
pub status_is :
    (m q n found : ℕ) {s : ℕ} {l l' : TableLengths} → s ≡ measured_status m q n l (ltb found n) → l ≡ l' → s ≡ price_status m q n l' found
unfolding measured_status price_status
status_is m q n found measured e = rw e at measured

-- a job is refused as a conversion is that has room for its frames
as_converted : (m q n found : ℕ) (l : TableLengths) → convert_status m q n l found n ≡ price_status m q n l found
unfolding convert_status price_status first_of
as_converted m q n found l = same_past (job_refusals m q n) _ _ (λ none. rw (le-ltb n n (omega arith)))

-- a job is priced
pub price_taken : {m q n : ℕ} {l : TableLengths} {found : ℕ} → price_status m q n l found ≡ 0 → ConversionTaken m q n l found n
price_taken {m} {q} {n} {l} {found} e = conversion_taken (as_converted m q n found l ∙ e)

module _ {q : ℕ} {w t : List ℕ} {lent : Tables} {found : List ℕ} where
  -- a refused call answers its status and leaves every buffer
  pub refused : (s : ℕ) → (s ≡ 0 → ⊥) → PriceOutcomeOf s q w t lent lent found found (answer_with s 0)
  unfolding if_done price_answer found_left
  refused zero h = absurd (h refl)
  refused (suc s) h = record { answer = refl; tables = tables_kept (suc s) w h; occurrences_left = refl }

  module _
      {left : Tables} {found' : List ℕ} {r : Answer} (fit : ConversionTaken (length w) q (length t) (lengths lent) (length found) (length t))
      (searched : SearchOutcomeOf 0 w t lent left found found' r)
    where
      -- the cost can be worked out
      pub countable : Countable t r.occurrences
      countable =
          record { text = fit.limits.text; few = rw (counted searched) (occurrences_few w t (omega (arith, fit.limits))) }

      -- a call that is done
      pub done : Bytes t → PriceOutcomeOf 0 q w t lent left found found' (answer_with 0 (cost_by_holds t r.occurrences))
      unfolding if_done price_answer
      done bytes =
          record {
            answer = rw (counted searched, cost_counted q w t fit.limits.hold_offset bytes);
            tables = searched.tables;
            occurrences_left = searched.occurrences_left;
          }
