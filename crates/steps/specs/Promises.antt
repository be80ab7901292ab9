-- What is promised of the steps, over any text as in Steps: each is a type, and its proof is in proofs/ (docs/PROMISES.md).
-- These are definitions.
use Rattle.std.specs.Prelude.{Bool, List, [], ◌∷◌, ◌++◌, ◌≢◌, ◌⊎◌, ◌≡◌, ℕ, ◌+◌, ◌-◌, ◌≤◌, ◌<◌, length}
use Rattle.tables.specs.Sets.{byte}
use Rattle.tables.specs.Tables.{period}
use Rattle.steps.specs.Bound.{bound, search_bound}
use Rattle.steps.specs.Occurrences.{all_occurrences, occurrences}
use Rattle.steps.specs.Steps.{Alignment, Comparison, alignments_from, alignments, comparisons_of, comparisons, listed}

-- where the search stands after these alignments, begun at b
unfoldable pub ends_at : (b : ℕ) → List Alignment → ℕ
ends_at b [] = b
ends_at b (a ∷ later) = ends_at (b + a.shift) later

-- the fuel of the steps is never short: more changes nothing, and the run ends past what is shown, as document 01's "while" does
unfoldable pub FuelEnough : Type 0
FuelEnough =
    (f : ℕ → ℕ) (N : ℕ) (w : List ℕ) → 1 ≤ length w → (fuel b s : ℕ) (repeat : Bool) → N < b + fuel →
    ((more : ℕ) → alignments_from (fuel + more) f N w b s repeat ≡ alignments_from fuel f N w b s repeat)
    × (N < ends_at b (alignments_from fuel f N w b s repeat) + length w)

-- demand 2: the occurrences that the steps list are exactly those by meaning, each once and ascending
unfoldable pub OccurrencesRight : Type 0
OccurrencesRight =
    (f : ℕ → ℕ) (N : ℕ) (w : List ℕ) → 1 ≤ length w → listed (alignments f N w) ≡ all_occurrences f N w

-- a text position was compared: it is that of one of these comparisons
unfoldable pub ComparedAt : List Comparison → (x : ℕ) → Type 0
ComparedAt [] x = ⊥
ComparedAt (c ∷ later) x = (c.text_position ≡ x) ⊎ ComparedAt later x

-- of the comparisons made one spoils position b: it shows where w(j) would stand a byte that is not w(j)
pub record Spoilt (f : ℕ → ℕ) (w : List ℕ) (made : List Comparison) (b : ℕ) : Type 0 where
  pub j : ℕ
  pub inside : j < length w
  pub compared : ComparedAt made (b + j)
  pub differs : f (b + j) ≢ byte w j

-- every position that a shift passes over is spoilt by a comparison made at its alignment or before it
unfoldable pub PassedSpoilt : Type 0
PassedSpoilt =
    (f : ℕ → ℕ) (N : ℕ) (w : List ℕ) → 1 ≤ length w →
    (before : List Alignment) (a : Alignment) (later : List Alignment) → alignments f N w ≡ before ++ (a ∷ later) →
    (b : ℕ) → a.position < b → b < a.position + a.shift → Spoilt f w (comparisons_of (before ++ (a ∷ []))) b

-- two texts show the same byte at every text position of these comparisons
unfoldable pub SameAt : List Comparison → (f g : ℕ → ℕ) → Type 0
SameAt [] f g = Unit {0}
SameAt (c ∷ later) f g = (f c.text_position ≡ g c.text_position) × SameAt later f g

-- demand 3: texts of one span that show the same byte wherever the first search compares have the same alignments,
-- and so the same comparisons in the same order and the same occurrences
unfoldable pub ComparisonsDecide : Type 0
ComparisonsDecide =
    (f g : ℕ → ℕ) (N : ℕ) (w : List ℕ) → 1 ≤ length w → SameAt (comparisons_of (alignments f N w)) f g →
    alignments g N w ≡ alignments f N w

-- demand 3: the count of comparisons keeps the bound
unfoldable pub FewComparisons : Type 0
FewComparisons =
    (f : ℕ → ℕ) (N : ℕ) (w : List ℕ) → 1 ≤ length w →
    length (comparisons_of (alignments f N w)) ≤ bound (length w) N (length (all_occurrences f N w)) (period w)

-- an empty text (chain) has no occurrence, no comparison and the bound 0. An empty pattern would
-- occur in it once, at 0
unfoldable pub EmptyRing : Type 0
EmptyRing = (w : List ℕ) → 1 ≤ length w → (occurrences w [] ≡ []) × (length (comparisons w []) ≡ 0) × (search_bound w [] ≡ 0)

-- each of these comparisons has its pattern position below m and its text position below N
unfoldable pub AllInside : (m N : ℕ) → List Comparison → Type 0
AllInside m N [] = Unit {0}
AllInside m N (c ∷ later) = (c.pattern_position < m) × (c.text_position < N) × AllInside m N later

-- every comparison of a search is inside the pattern, and inside what is shown
unfoldable pub LooksInside : Type 0
LooksInside =
    (f : ℕ → ℕ) (N : ℕ) (w : List ℕ) → 1 ≤ length w → AllInside (length w) N (comparisons_of (alignments f N w))

-- in a ring of n bytes no text position is above n + m - 2
unfoldable pub LooksInRing : Type 0
LooksInRing = (w t : List ℕ) → 1 ≤ length w → AllInside (length w) (length t + length w - 1) (comparisons w t)
