-- What searching answers and leaves in its buffers (document 01, "Turned away, by who can cause
-- it"). These are definitions.
use Rattle.std.specs.Prelude.{List, [], ◌∷◌, ◌≡◌, ℕ, ◌≤◌, length}
use Rattle.answers.specs.Answers.{searched, if_done, answered}
use Rattle.answers.specs.Buffers.{in_front}
use Rattle.answers.specs.Refusals.{first_of, longest_text, pattern_refusal, text_refusal, buffer_refusal}
use Rattle.answers.specs.declared.Answer.{Answer}
use Rattle.tables.specs.Buffers.{Tables, lengths, TablesFit, table_refusal, tables_left}
use Rattle.tables.specs.Tables.{period}
use Rattle.tables.specs.declared.TableLengths.{TableLengths}
use Rattle.steps.specs.Bound.{search_bound}
use Rattle.steps.specs.Occurrences.{occurrences}
use Rattle.steps.specs.Steps.{comparisons}

-- the status of searching: 4, 6, 7; n entries are needed for finds
unfoldable pub search_status : (m n : ℕ) → TableLengths → (found_len : ℕ) → ℕ
search_status m n l f = first_of (pattern_refusal m ∷ text_refusal n ∷ table_refusal m l ∷ buffer_refusal f n ∷ [])

-- searching works out h and C, and p and the bound of demand 3 (document 02, "Write out the period
-- and the bound")
abbrev pub search_done : (w t : List ℕ) → Answer
search_done w t = searched (length (occurrences w t)) (length (comparisons w t)) (period w) (search_bound w t)

-- the finds in their buffer after a call of this status: entries past the h-th keep what they held
unfoldable pub found_left : (status : ℕ) → (w t found : List ℕ) → List ℕ
found_left s w t found = if_done s (in_front (occurrences w t) found) found

-- nothing is left to measure: the pattern and the text are taken, and there is room for the tables
-- and for the occurrences (finds)
pub record SearchFit (w t : List ℕ) (lent : Tables) (found : List ℕ) : Type 0 where
  pub tables : TablesFit w lent
  pub text : length t ≤ longest_text
  pub room : length (occurrences w t) ≤ length found

-- what `search` answers and leaves, of status s: lent and left are the tables' buffers at entry and
-- at exit, found' is found at exit
pub record SearchOutcomeOf (s : ℕ) (w t : List ℕ) (lent left : Tables) (found found' : List ℕ) (r : Answer) : Type 0 where
  pub answer : r ≡ answered s (search_done w t)
  pub tables : left ≡ tables_left s w lent
  pub occurrences_left : found' ≡ found_left s w t found

-- the status of a search for w in t with these buffers
abbrev pub search_status_of : (w t : List ℕ) (lent : Tables) (found : List ℕ) → ℕ
search_status_of w t lent found = search_status (length w) (length t) (lengths lent) (length found)

-- what `search` answers and leaves, of the status that its conditions give
abbrev pub SearchOutcome : (w t : List ℕ) (lent left : Tables) (found found' : List ℕ) (r : Answer) → Type 0
SearchOutcome w t lent left found found' r = SearchOutcomeOf (search_status_of w t lent found) w t lent left found found' r
