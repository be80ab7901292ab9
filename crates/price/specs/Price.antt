-- What pricing a job answers and leaves in its buffers (document 02, "The card cutter's tariff"). These are definitions.
use Rattle.std.specs.Prelude.{List, [], ◌∷◌, ◌++◌, ◌≡◌, ℕ, length}
use Rattle.answers.specs.Answers.{status_only, if_done}
use Rattle.answers.specs.Refusals.{first_of, job_refusals, buffer_refusal}
use Rattle.tables.specs.Buffers.{Tables, lengths, table_refusal, tables_left}
use Rattle.tables.specs.declared.TableLengths.{TableLengths}
use Rattle.search.specs.Search.{found_left}
use Rattle.frames.specs.Frames.{frames}
use Rattle.price_tariff.specs.Tariff.{cost}
use Rattle.price.specs.declared.PriceAnswer.{PriceAnswer}

-- the status of pricing: 4, 5, 6, 7; n entries are needed for finds
unfoldable pub price_status : (m q n : ℕ) → TableLengths → (found_len : ℕ) → ℕ
price_status m q n l f = first_of (job_refusals m q n ++ (table_refusal m l ∷ buffer_refusal f n ∷ []))

-- what a job costs: its text (chain) with the frames that it converts to
abbrev pub job_cost : (q : ℕ) → (w t : List ℕ) → ℕ
job_cost q w t = cost t (frames q w t)

-- pricing answers none of what every answer has beside its status; it also answers the pence, 0 where it is refused
unfoldable pub price_answer : (status q : ℕ) → (w t : List ℕ) → PriceAnswer
price_answer s q w t = record { answer = status_only s; pence = if_done s (job_cost q w t) 0 }

-- what a refused call answers: its status, and 0 pence
abbrev pub refused_answer : (status : ℕ) → PriceAnswer
refused_answer status = record { answer = status_only status; pence = 0 }

-- what `price` answers and leaves, of status s: lent and left are the tables' buffers at entry and at exit, found' is found at exit; tables
-- and finds are left as `search` leaves them
pub record PriceOutcomeOf (s q : ℕ) (w t : List ℕ) (lent left : Tables) (found found' : List ℕ) (r : PriceAnswer) : Type 0 where
  pub answer : r ≡ price_answer s q w t
  pub tables : left ≡ tables_left s w lent
  pub occurrences_left : found' ≡ found_left s w t found

-- the status of pricing t by w and q with these buffers
abbrev pub price_status_of : (q : ℕ) (w t : List ℕ) (lent : Tables) (found : List ℕ) → ℕ
price_status_of q w t lent found = price_status (length w) q (length t) (lengths lent) (length found)

-- what `price` answers and leaves, of the status that its conditions give
abbrev pub PriceOutcome : (q : ℕ) (w t : List ℕ) (lent left : Tables) (found found' : List ℕ) (r : PriceAnswer) → Type 0
PriceOutcome q w t lent left found found' r = PriceOutcomeOf (price_status_of q w t lent found) q w t lent left found found' r
