-- What preparing a pattern answers and leaves in its buffers (document 01, "Turned away, by who can cause it"). These are definitions.
use Rattle.std.specs.Prelude.{List, [], ◌∷◌, ◌≡◌, ℕ, length}
use Rattle.answers.specs.Answers.{prepared, answered}
use Rattle.answers.specs.Refusals.{first_of, pattern_refusal}
use Rattle.answers.specs.declared.Answer.{Answer}
use Rattle.tables.specs.Buffers.{Tables, lengths, table_refusal, tables_left}
use Rattle.tables.specs.Tables.{period}
use Rattle.tables.specs.declared.TableLengths.{TableLengths}

-- the status of preparing: 4, then 7
unfoldable pub prepare_status : (m : ℕ) → TableLengths → ℕ
prepare_status m l = first_of (pattern_refusal m ∷ table_refusal m l ∷ [])

-- preparing works out p (document 02, "Write out the period and the bound")
abbrev pub prepare_done : (w : List ℕ) → Answer
prepare_done w = prepared (period w)

-- what `prepare` answers and leaves, of status s: lent are the tables' buffers at entry, left those at exit
pub record PrepareOutcomeOf (s : ℕ) (w : List ℕ) (lent left : Tables) (r : Answer) : Type 0 where
  pub answer : r ≡ answered s (prepare_done w)
  pub tables : left ≡ tables_left s w lent

abbrev pub PrepareOutcome : (w : List ℕ) (lent left : Tables) (r : Answer) → Type 0
PrepareOutcome w lent left r = PrepareOutcomeOf (prepare_status (length w) (lengths lent)) w lent left r
