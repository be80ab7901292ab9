-- What an explanation means (document 02, "Why this scallop has no hold"), over any text as in the steps, and that each position has just one.
-- Each promise is a type, and its proof is in proofs/ (docs/PROMISES.md). These are definitions.
use Rattle.std.specs.Prelude.{true, false, List, ◌∷◌, ◌++◌, ◌≢◌, ◌↔◌, ◌≡◌, ℕ, ◌+◌, ◌*◌, ◌-◌, ◌≤◌, ◌<◌, length, get_or}
use Rattle.tables.specs.Sets.{byte}
use Rattle.tables.specs.Tables.{period}
use Rattle.steps.specs.Occurrences.{occurs}
use Rattle.steps.specs.Promises.{ComparedAt, SameAt}
use Rattle.steps.specs.Steps.{Comparison, Alignment, alignments, comparisons_of}
use Rattle.explain_meaning.specs.Explanation.{explanation}
use Rattle.explain_answers.specs.declared.ShiftKind.{ShiftKind}
use Rattle.explain_answers.specs.declared.ShiftKind.TheVariants.{LastByte, Order, AfterOccurrence, LongRepeat}
use Rattle.explain_answers.specs.declared.Explanation.{Explanation}
use Rattle.explain_answers.specs.declared.Explanation.TheVariants.{Listed, Tried, PassedOver}

-- the steps of a search make this alignment
pub record Made (f : ℕ → ℕ) (N : ℕ) (w : List ℕ) (a : Alignment) : Type 0 where
  pub before : List Alignment
  pub later : List Alignment
  pub split : alignments f N w ≡ before ++ (a ∷ later)

-- the pattern was laid at b and differed: i is the first position of its row that differs
pub record TriedAt (f : ℕ → ℕ) (N : ℕ) (w : List ℕ) (b i : ℕ) : Type 0 where
  pub here : Alignment
  pub made : Made f N w here
  pub there : here.position ≡ b
  pub in_row : here.agreed < length here.row
  pub differing : i ≡ get_or here.row here.agreed 0
  pub differs : f (b + i) ≢ byte w i
  pub agree : (x : ℕ) → x < here.agreed → f (b + get_or here.row x 0) ≡ byte w (get_or here.row x 0)

-- the earliest of these comparisons that spoils b spoils it at j: it is that of text position b + j, whose byte is not w(j), and no comparison before
-- it shows at a position b + i, i in the pattern, another byte than w(i)
pub record Earliest (f : ℕ → ℕ) (w : List ℕ) (b j : ℕ) (all : List Comparison) : Type 0 where
  pub before : List Comparison
  pub spoiling : Comparison
  pub later : List Comparison
  pub split : all ≡ before ++ (spoiling ∷ later)
  pub there : spoiling.text_position ≡ b + j
  pub inside : j < length w
  pub differs : f (b + j) ≢ byte w j
  pub unspoilt : (i : ℕ) → i < length w → ComparedAt before (b + i) → f (b + i) ≡ byte w i

-- the shift from an alignment is of this kind: after a find where its position is an occurrence; long repeat where one of a repeat differs; last card
-- where the first comparison by the order differs, and order where a later one does
unfoldable pub ShiftsBy : (f : ℕ → ℕ) → (N : ℕ) → (w : List ℕ) → Alignment → ShiftKind → Type 0
ShiftsBy f N w a AfterOccurrence = occurs f N w a.position ≡ true
ShiftsBy f N w a LongRepeat = (a.agreed < length a.row) × (a.repeat ≡ true)
ShiftsBy f N w a LastByte = (a.agreed < length a.row) × (a.repeat ≡ false) × (a.agreed ≡ 0)
ShiftsBy f N w a Order = (a.agreed < length a.row) × (a.repeat ≡ false) × (1 ≤ a.agreed)

-- m is at least 3 × p, and p before b is an occurrence (find)
unfoldable pub RepeatAt : (f : ℕ → ℕ) → (N : ℕ) → (w : List ℕ) → (b : ℕ) → Type 0
RepeatAt f N w b = (3 * period w ≤ length w) × (period w ≤ b) × (occurs f N w (b - period w) ≡ true)

-- an alignment is a repeat just where that is so of its position: whether a shift counts as long
-- repeat is said by pattern and text, without the steps
unfoldable pub RepeatsMeant : Type 0
RepeatsMeant =
    (f : ℕ → ℕ) (N : ℕ) (w : List ℕ) → 1 ≤ length w → (a : Alignment) → Made f N w a →
    (a.repeat ≡ true) ↔ RepeatAt f N w a.position

-- the pattern was never laid at b: the alignment at `from` shifted past it, by a shift of this kind, and the earliest comparison of the search that
-- spoils b spoils it at j
pub record PassedAt (f : ℕ → ℕ) (N : ℕ) (w : List ℕ) (b from j : ℕ) (kind : ShiftKind) : Type 0 where
  pub never_laid : (a : Alignment) → Made f N w a → a.position ≢ b
  pub here : Alignment
  pub made : Made f N w here
  pub there : here.position ≡ from
  pub after : from < b
  pub before : b < from + here.shift
  pub shifts_by : ShiftsBy f N w here kind
  pub spoilt : Earliest f w b j (comparisons_of (alignments f N w))

-- an explanation is true of position b
unfoldable pub TrueOf : (f : ℕ → ℕ) → (N : ℕ) → (w : List ℕ) → (b : ℕ) → Explanation → Type 0
TrueOf f N w b Listed = occurs f N w b ≡ true
TrueOf f N w b (Tried i) = TriedAt f N w b i
TrueOf f N w b (PassedOver from j kind) = PassedAt f N w b from j kind

-- every position from which the pattern is shown whole has an explanation that is true of it, the one defined, and no other is
unfoldable pub OneExplanation : Type 0
OneExplanation =
    (f : ℕ → ℕ) (N : ℕ) (w : List ℕ) → 1 ≤ length w → (b : ℕ) → b + length w ≤ N →
    TrueOf f N w b (explanation f N w b) × ((e : Explanation) → TrueOf f N w b e → e ≡ explanation f N w b)

-- texts of one span that show the same byte wherever the first search compares have the same
-- explanation of every position
unfoldable pub ComparisonsExplain : Type 0
ComparisonsExplain =
    (f g : ℕ → ℕ) (N : ℕ) (w : List ℕ) → 1 ≤ length w → SameAt (comparisons_of (alignments f N w)) f g →
    (b : ℕ) → explanation g N w b ≡ explanation f N w b
