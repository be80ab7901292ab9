-- What is promised of a ring that is started r bytes (cards) later (document 02, "Lacing at another
-- card"): its occurrences (finds), its frames, its ones (holes), its cost and its bound. Each is a
-- type, and its proof is in proofs/. These are definitions.
use Rattle.std.specs.Prelude.{List, ◌++◌, map, ◌≡◌, ℕ, ◌+◌, ◌≤◌, length, take, drop}
use Rattle.steps.specs.Bound.{search_bound}
use Rattle.steps.specs.Occurrences.{occurrences}
use Rattle.steps.specs.Steps.{comparisons}
use Rattle.steps.specs.Text.{shown}
use Rattle.ring.specs.Ring.{back, ascending}
use Rattle.ones.specs.Ones.{ones_of}
use Rattle.frames.specs.Frames.{frames}
use Rattle.price.specs.Price.{job_cost}

-- a ring started r entries later: the entries from r on, then those before
unfoldable pub rotated : (r : ℕ) → (t : List ℕ) → List ℕ
rotated r t = drop r t ++ take r t

-- the positions of a ring of n turned back by r around it: b - r modulo n for each position (place) b, again ascending
unfoldable pub rotated_positions : (n r : ℕ) → (positions : List ℕ) → List ℕ
rotated_positions n r bs = ascending n (map (λ b. back n b r) bs)

-- at position x the ring started r bytes later, r at most n, shows what the ring shows at x + r
unfoldable pub ShownRotated : Type 0
ShownRotated = (r : ℕ) (t : List ℕ) → r ≤ length t → (x : ℕ) → shown (rotated r t) x ≡ shown t (x + r)

-- it has the same occurrences (finds), turned back by r around the ring, again ascending
unfoldable pub OccurrencesRotated : Type 0
OccurrencesRotated =
    (r : ℕ) (w t : List ℕ) → 1 ≤ length w → r ≤ length t →
    occurrences w (rotated r t) ≡ rotated_positions (length t) r (occurrences w t)

-- as many as before
unfoldable pub NumberRotated : Type 0
NumberRotated =
    (r : ℕ) (w t : List ℕ) → 1 ≤ length w → r ≤ length t →
    length (occurrences w (rotated r t)) ≡ length (occurrences w t)

-- it is converted to the frames started r later
unfoldable pub FramesRotated : Type 0
FramesRotated =
    (r q : ℕ) (w t : List ℕ) → 1 ≤ length w → r ≤ length t →
    frames q w (rotated r t) ≡ rotated r (frames q w t)

-- it has as many ones (holes)
unfoldable pub OnesRotated : Type 0
OnesRotated = (r : ℕ) (t : List ℕ) → ones_of (rotated r t) ≡ ones_of t

-- it costs the same, for any r
unfoldable pub CostRotated : Type 0
CostRotated = (r q : ℕ) (w t : List ℕ) → 1 ≤ length w → job_cost q w (rotated r t) ≡ job_cost q w t

-- the bound is the same number from each start, and the count of comparisons (looks), which may differ, keeps it
unfoldable pub BoundRotated : Type 0
BoundRotated =
    (r : ℕ) (w t : List ℕ) → 1 ≤ length w → r ≤ length t →
    (search_bound w (rotated r t) ≡ search_bound w t) × (length (comparisons w (rotated r t)) ≤ search_bound w t)
