-- Demand 3 of whole calls (document 01, "The steps"): what every search that is taken answers and leaves, and what two of them share.
-- A search is a call of `search` or of `convert`, whatever its contract allows. These are definitions.
use Rattle.std.specs.Prelude.{List, ◌↔◌, ◌≡◌, ℕ, ◌≤◌, ◌<◌, length, take}
use Rattle.answers.specs.Bytes.{Bytes}
use Rattle.answers.specs.declared.Answer.{Answer}
use Rattle.tables.specs.Buffers.{Tables, lengths}
use Rattle.tables.specs.Tables.{period}
use Rattle.steps.specs.Bound.{search_bound}
use Rattle.steps.specs.Occurrences.{occurrences}
use Rattle.steps.specs.Promises.{SameAt}
use Rattle.search.specs.Search.{SearchOutcome}
use Rattle.steps.specs.Steps.{comparisons}
use Rattle.steps.specs.Text.{shown}
use Rattle.convert.specs.Convert.{ConvertOutcome}
use Rattle.frames.specs.Frames.{holds}
use Rattle.frames.specs.Promises.{holds_of}
use Rattle.ones.specs.Ones.{count_answer}
use Rattle.ring.specs.Ring.{ascending}

-- the caller's buffers (lent buffers); `search` is lent no frames, and says nothing of these
pub record Buffers : Type 0 where
  pub tables : Tables
  pub found : List ℕ
  pub frames : List ℕ

-- a call: the buffers that it is lent, what is in them at its exit, and its answer
pub record Call : Type 0 where
  pub lent : Buffers
  pub left : Buffers
  pub answer : Answer

-- the contract of `search` allows this call for the pattern (motif) w and the text (chain) t
abbrev pub Searches : (w t : List ℕ) → Call → Type 0
Searches w t c =
    let x = c.lent in
    let x' = c.left in
    SearchOutcome w t x.tables x'.tables x.found x'.found c.answer

-- the contract of `convert` allows this call for w, t and the hold offset (hold place) q
abbrev pub Converts : (q : ℕ) → (w t : List ℕ) → Call → Type 0
Converts q w t c =
    let x = c.lent in
    let x' = c.left in
    ConvertOutcome q w t x.tables x'.tables x.found x'.found x.frames x'.frames c.answer

-- the call is taken
abbrev pub CallTaken : Call → Type 0
CallTaken c = c.answer.status ≡ 0

-- a search for w in t with the hold offset q: `search` takes no q, and so is a search with any
pub data AnySearch (q : ℕ) (w t : List ℕ) (c : Call) : Type 0 where
  by_search : Searches w t c → AnySearch q w t c
  by_convert : Converts q w t c → AnySearch q w t c

-- the occurrences (finds) of a search: the h entries that it leaves for them
unfoldable pub found_by : Call → List ℕ
found_by c = take c.answer.occurrences c.left.found

-- its holds in a ring of n: the positions (b + q) modulo n, in the order of its occurrences b
unfoldable pub holds_by : (n q : ℕ) → Call → List ℕ
holds_by n q c = holds n q (found_by c)

-- the positions where the n frames of a conversion are holds, ascending
unfoldable pub frames_held : (n : ℕ) → Call → List ℕ
frames_held n c = holds_of (take n c.left.frames)

-- what a search answers and leaves: the occurrences by meaning, and their number h; the number of comparisons (looks) that the steps make; the
-- pattern's period p; the bound, which the count answered keeps; and after a conversion just its holds are holds among its n frames, one for each
-- occurrence
pub record Exact (q : ℕ) (w t : List ℕ) (c : Call) : Type 0 where
  pub occurrences_found : found_by c ≡ occurrences w t
  pub occurrences_counted : c.answer.occurrences ≡ length (occurrences w t)
  pub comparisons_counted : c.answer.comparisons ≡ length (comparisons w t)
  pub period_answered : c.answer.period ≡ period w
  pub bound_answered : c.answer.bound ≡ search_bound w t
  pub few : c.answer.comparisons ≤ c.answer.bound
  pub frames_exact : Converts q w t c → Bytes t → frames_held (length t) c ≡ ascending (length t) (holds_by (length t) q c)
  pub holds_counted : Converts q w t c → Bytes t → length (frames_held (length t) c) ≡ c.answer.occurrences

-- demand 3: this is so of every search that is taken
unfoldable pub EverySearchExact : Type 0
EverySearchExact = (q : ℕ) (w t : List ℕ) (c : Call) → AnySearch q w t c → CallTaken c → Exact q w t c

-- a conversion that is taken answers the ones (holes) that `count_ones` of the same text answers
unfoldable pub OnesAsCounted : Type 0
OnesAsCounted =
    (q : ℕ) (w t : List ℕ) (c : Call) → Converts q w t c → CallTaken c → c.answer.ones ≡ (count_answer t).ones

-- what a search c in t and a search d in u share: the comparisons that the steps make, in their
-- order; the occurrences, as many, and their holds, of two conversions also those among the frames;
-- and the count of comparisons, the period and the bound that are answered
pub record Shared (q : ℕ) (w t u : List ℕ) (c d : Call) : Type 0 where
  pub same_comparisons : comparisons w u ≡ comparisons w t
  pub same_occurrences : found_by d ≡ found_by c
  pub same_number : d.answer.occurrences ≡ c.answer.occurrences
  pub same_holds : holds_by (length u) q d ≡ holds_by (length t) q c
  pub same_held : Converts q w t c → Bytes t → Converts q w u d → Bytes u → frames_held (length u) d ≡ frames_held (length t) c
  pub same_count : d.answer.comparisons ≡ c.answer.comparisons
  pub same_period : d.answer.period ≡ c.answer.period
  pub same_bound : d.answer.bound ≡ c.answer.bound

-- demand 3: so do any two searches, both taken, for one pattern and one hold offset, in texts (rings) of equal length that show the same byte
-- at every position where the first search compares
unfoldable pub Paired : Type 0
Paired =
    (q : ℕ) (w t u : List ℕ) (c d : Call) → AnySearch q w t c → CallTaken c → AnySearch q w u d → CallTaken d →
    length u ≡ length t → SameAt (comparisons w t) (shown t) (shown u) →
    Shared q w t u c d

-- a call d is lent buffers as long as those of a call c
pub record LentAsLong (c d : Call) : Type 0 where
  pub tables : lengths d.lent.tables ≡ lengths c.lent.tables
  pub found : length d.lent.found ≡ length c.lent.found
  pub frames : length d.lent.frames ≡ length c.lent.frames

-- the status goes by lengths: two calls of `search` with patterns, texts and buffers as long answer
-- the same; so do two of `convert`, if both hold offsets are in their patterns, or neither is
unfoldable pub StatusByLengths : Type 0
StatusByLengths =
    (q q' : ℕ) (w w' t t' : List ℕ) (c d : Call) → length w' ≡ length w → length t' ≡ length t → LentAsLong c d →
    (Searches w t c → Searches w' t' d → d.answer.status ≡ c.answer.status)
    × ((q' < length w') ↔ (q < length w) → Converts q w t c → Converts q' w' t' d → d.answer.status ≡ c.answer.status)
