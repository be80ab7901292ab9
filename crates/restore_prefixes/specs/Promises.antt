-- What is promised of prefixes, over any text: each is a type, and its proof is in proofs/ (docs/PROMISES.md). These are definitions.
use Rattle.std.specs.Prelude.{List, ◌≡◌, ℕ, suc, ◌+◌, ◌≤◌, ◌<◌, eqb, length}
use Rattle.tables.specs.Sets.{byte}
use Rattle.steps.specs.Occurrences.{occurs}
use Rattle.restore_prefixes.specs.Prefixes.{longest_prefix, link, extended}

-- the walk over a text: the longest prefix that ends before a position, and the byte there, decide the longest that ends after it
unfoldable pub ExtendedRight : Type 0
ExtendedRight = (f : ℕ → ℕ) (w : List ℕ) (x : ℕ) → longest_prefix f w (suc x) ≡ extended w (longest_prefix f w x) (f x)

-- so does each link follow from the one before it
unfoldable pub LinksRight : Type 0
LinksRight = (w : List ℕ) (k : ℕ) → 1 ≤ k → k < length w → link w (suc k) ≡ extended w (link w k) (byte w k)

-- an occurrence is where the whole pattern ends
unfoldable pub OccurrenceEnds : Type 0
OccurrenceEnds =
    (f : ℕ → ℕ) (N : ℕ) (w : List ℕ) (b : ℕ) → b + length w ≤ N →
    occurs f N w b ≡ eqb (longest_prefix f w (b + length w)) (length w)
