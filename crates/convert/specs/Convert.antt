-- What converting answers and leaves in its buffers (document 01, "Turned away, by who can cause it"). These are definitions.
use Rattle.std.specs.Prelude.{List, [], ◌∷◌, ◌++◌, ◌≡◌, ℕ, length}
use Rattle.answers.specs.Answers.{converted, if_done, answered}
use Rattle.answers.specs.Buffers.{in_front}
use Rattle.answers.specs.Refusals.{first_of, job_refusals, buffer_refusal}
use Rattle.answers.specs.declared.Answer.{Answer}
use Rattle.tables.specs.Buffers.{Tables, lengths, table_refusal, tables_left}
use Rattle.tables.specs.declared.TableLengths.{TableLengths}
use Rattle.search.specs.Search.{search_done, found_left}
use Rattle.frames.specs.Frames.{frames}
use Rattle.ones.specs.Ones.{ones_of}

-- the status of converting: 4, 5, 6, 7; n entries each are needed for finds and frames
unfoldable pub convert_status : (m q n : ℕ) → TableLengths → (found_len frames_len : ℕ) → ℕ
convert_status m q n l f g = first_of (job_refusals m q n ++ (table_refusal m l ∷ buffer_refusal f n ∷ buffer_refusal g n ∷ []))

-- converting works out what its search does, h, C, p and the bound, and the holes
abbrev pub convert_done : (w t : List ℕ) → Answer
convert_done w t = converted (search_done w t) (ones_of t)

-- the frames in their buffer after a call of this status
unfoldable pub frames_left : (status q : ℕ) → (w t frame : List ℕ) → List ℕ
frames_left s q w t frame = if_done s (in_front (frames q w t) frame) frame

-- what `convert` answers and leaves, of status s: lent and left are the tables' buffers at entry and at exit, x' is the buffer x at exit
pub record ConvertOutcomeOf (s q : ℕ) (w t : List ℕ) (lent left : Tables) (found found' frame frame' : List ℕ) (r : Answer) : Type 0 where
  pub answer : r ≡ answered s (convert_done w t)
  pub tables : left ≡ tables_left s w lent
  pub occurrences_left : found' ≡ found_left s w t found
  pub moves_and_holds_left : frame' ≡ frames_left s q w t frame

-- the status of a conversion of t by w and q with these buffers
abbrev pub convert_status_of : (q : ℕ) (w t : List ℕ) (lent : Tables) (found frame : List ℕ) → ℕ
convert_status_of q w t lent found frame = convert_status (length w) q (length t) (lengths lent) (length found) (length frame)

-- what `convert` answers and leaves, of the status that its conditions give
abbrev pub ConvertOutcome : (q : ℕ) (w t : List ℕ) (lent left : Tables) (found found' frame frame' : List ℕ) (r : Answer) → Type 0
ConvertOutcome q w t lent left found found' frame frame' r =
    ConvertOutcomeOf (convert_status_of q w t lent found frame) q w t lent left found found' frame frame' r
