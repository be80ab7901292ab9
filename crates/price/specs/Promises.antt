-- What is promised of pricing (document 02, "The card cutter's tariff"), of whole calls, for all that their contracts allow. Each is a type, and
-- its proof is in proofs/. These are definitions.
use Rattle.std.specs.Prelude.{List, ◌≡◌, ℕ, ◌<◌, length, take}
use Rattle.answers.specs.declared.Answer.{Answer}
use Rattle.tables.specs.Buffers.{Tables}
use Rattle.steps.specs.Occurrences.{occurrences}
use Rattle.steps.specs.Promises.{SameAt}
use Rattle.steps.specs.Steps.{comparisons}
use Rattle.steps.specs.Text.{shown}
use Rattle.search.specs.Search.{SearchOutcome}
use Rattle.convert.specs.Paired.{Call, Converts, CallTaken}
use Rattle.price_tariff.specs.Tariff.{cost}
use Rattle.price.specs.Price.{PriceOutcome}
use Rattle.price.specs.declared.PriceAnswer.{PriceAnswer}

-- a call of `price`: the buffers for the tables at entry and at exit, the one for the occurrences
-- (finds) at entry and at exit, and its answer
pub record PriceCall : Type 0 where
  pub lent : Tables
  pub left : Tables
  pub found : List ℕ
  pub found' : List ℕ
  pub answer : PriceAnswer

-- a call of `price` for the job q, w, t that its contract allows and that is taken
pub record Priced (q : ℕ) (w t : List ℕ) (c : PriceCall) : Type 0 where
  pub allowed : PriceOutcome q w t c.lent c.left c.found c.found' c.answer
  pub taken : c.answer.answer.status ≡ 0

-- `price` and `convert` of one job, both taken: the pence are what the text (chain) costs with the frames that the conversion left
unfoldable pub FramesPriced : Type 0
FramesPriced =
    (q : ℕ) (w t : List ℕ) (p : PriceCall) → Priced q w t p → (c : Call) → Converts q w t c → CallTaken c →
    p.answer.pence ≡ cost t (take (length t) c.left.frames)

-- two calls of `price`, both taken, for one pattern (motif) and one hold offset (hold
-- place), in texts (rings) of equal length that show the same byte wherever the first search
-- compares (looks), have as many occurrences (finds), and leave the same entries for them
unfoldable pub PricesPaired : Type 0
PricesPaired =
    (q : ℕ) (w t u : List ℕ) (c d : PriceCall) → Priced q w t c → Priced q w u d →
    length u ≡ length t → SameAt (comparisons w t) (shown t) (shown u) →
    let h = length (occurrences w t) in
    (length (occurrences w u) ≡ h) × (take h d.found' ≡ take h c.found')

-- with a hold offset (hold place) inside the pattern (motif) `price` answers the status that `search` with the same buffers answers, and leaves the
-- same tables and finds in them
unfoldable pub AsBySearch : Type 0
AsBySearch =
    (q : ℕ) (w t : List ℕ) (lent left searched : Tables) (found found' listed : List ℕ) (r : PriceAnswer) (a : Answer)
    → q < length w → PriceOutcome q w t lent left found found' r → SearchOutcome w t lent searched found listed a
    → (r.answer.status ≡ a.status) × ((left ≡ searched) × (found' ≡ listed))
