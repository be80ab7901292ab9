-- Frames, moves and holds (document 01, "Cards, motif, chain, frame"; document 02, "Chains are laced into a ring"). These are definitions.
use Rattle.std.specs.Prelude.{Bool, List, [], ◌∷◌, map, ℕ, ◌+◌, ◌%◌, leb, length, set}
use Rattle.steps.specs.Occurrences.{occurrences}
use Rattle.ring.specs.Ring.{is_in}

-- a frame is 0 to 255 for a move with that byte (card), and 256 for a hold by one pattern (motif)
abbrev pub hold : ℕ
hold = 256

-- a frame of 256 or more is a hold, of whichever rule
abbrev pub is_hold : (frame : ℕ) → Bool
is_hold g = leb hold g

-- the holds of occurrences (finds) in a ring of n: (b + q) modulo n for each b, q the hold offset (hold place)
unfoldable pub holds : (n q : ℕ) → (positions : List ℕ) → List ℕ
holds n q bs = map (λ b. (b + q) % n) bs

-- position i of the ring t is the hold of an occurrence (find) of w
abbrev pub is_held : (q : ℕ) (w t : List ℕ) (i : ℕ) → Bool
is_held q w t i = is_in (holds (length t) q (occurrences w t)) i

-- the frames after each of these positions is set to this one
unfoldable pub with_holds : (frame : ℕ) → (positions frames : List ℕ) → List ℕ
with_holds x [] frames = frames
with_holds x (i ∷ later) frames = with_holds x later (set frames i x)

-- conversion copies each byte of the text to a move, then makes frame (b + q) modulo n a hold for every occurrence (find) b
unfoldable pub frames : (q : ℕ) → (w t : List ℕ) → List ℕ
frames q w t = with_holds hold (holds (length t) q (occurrences w t)) t
