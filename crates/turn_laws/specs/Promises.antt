-- What is promised of a job that is turned (document 02, "Mirrored edges"): its occurrences
-- (finds), its period and its bound, its frames, its ones (holes) and its cost. Each is a type, and
-- its proof is in proofs/. These are definitions.
use Rattle.std.specs.Prelude.{cond, List, map, ◌≡◌, ℕ, ◌+◌, ◌≤◌, ◌<◌, length}
use Rattle.answers.specs.Bytes.{Bytes}
use Rattle.tables.specs.Tables.{period}
use Rattle.steps.specs.Bound.{search_bound}
use Rattle.steps.specs.Occurrences.{occurrences}
use Rattle.ring.specs.Ring.{back, ascending}
use Rattle.ones.specs.Ones.{ones_of}
use Rattle.frames.specs.Frames.{is_hold, frames}
use Rattle.turn_mirror.specs.Mirrored.{mirrored}
use Rattle.turn.specs.Turned.{reverses, turned_by, turned, turned_index}
use Rattle.price.specs.Price.{job_cost}

-- n - m - b modulo n: where position (place) b of a ring of n is after its order is reversed, for a pattern (motif) of m
abbrev pub reversed_position : (m n b : ℕ) → ℕ
reversed_position m n b = back n n (m + b)

-- the positions of a job turned: n - m - b modulo n for each position b in ways 2 and 3, ascending again, and else the same
unfoldable pub turned_positions : (way m n : ℕ) → (positions : List ℕ) → List ℕ
turned_positions way m n bs = cond (reverses way) (ascending n (map (reversed_position m n) bs)) bs

-- a pattern (motif) and a text (chain) turned alike have these occurrences (finds)
unfoldable pub OccurrencesTurned : Type 0
OccurrencesTurned =
    (way : ℕ) (w t : List ℕ) → 1 ≤ length w → Bytes w → Bytes t →
    occurrences (turned way w) (turned way t) ≡ turned_positions way (length w) (length t) (occurrences w t)

-- as many as the job has
unfoldable pub NumberTurned : Type 0
NumberTurned =
    (way : ℕ) (w t : List ℕ) → 1 ≤ length w → Bytes w → Bytes t →
    length (occurrences (turned way w) (turned way t)) ≡ length (occurrences w t)

-- a pattern turned has the same period
unfoldable pub PeriodTurned : Type 0
PeriodTurned = (way : ℕ) (w : List ℕ) → Bytes w → period (turned way w) ≡ period w

-- a job turned has the same bound
unfoldable pub BoundTurned : Type 0
BoundTurned =
    (way : ℕ) (w t : List ℕ) → 1 ≤ length w → Bytes w → Bytes t →
    search_bound (turned way w) (turned way t) ≡ search_bound w t

-- a frame mirrored: a hold, of whichever rule, stays as it is, and a move is one with its byte
-- (card) mirrored
unfoldable pub mirrored_frame : (frame : ℕ) → ℕ
mirrored_frame f = cond (is_hold f) f (mirrored f)

-- frames turned in a way
unfoldable pub turned_frames : (way : ℕ) → (frames : List ℕ) → List ℕ
turned_frames way fs = turned_by mirrored_frame way fs

-- a job turned, its hold offset (hold place) too, is converted to the job's frames turned
unfoldable pub FramesTurned : Type 0
FramesTurned =
    (way q : ℕ) (w t : List ℕ) → Bytes w → Bytes t → q < length w →
    frames (turned_index way (length w) q) (turned way w) (turned way t) ≡ turned_frames way (frames q w t)

-- a text turned has as many ones (holes)
unfoldable pub OnesTurned : Type 0
OnesTurned = (way : ℕ) (t : List ℕ) → Bytes t → ones_of (turned way t) ≡ ones_of t

-- a job turned, its hold offset too, costs the same
unfoldable pub CostTurned : Type 0
CostTurned =
    (way q : ℕ) (w t : List ℕ) → Bytes w → Bytes t → q < length w →
    job_cost (turned_index way (length w) q) (turned way w) (turned way t) ≡ job_cost q w t
