-- Frames put back to bytes (document 02, "Back to cards"), and the test that tells whether they are a conversion. A frame names its rule, 256 × its
-- number, and which byte a hold is put back to goes by a list, the bytes that the rules hold; a pattern with its hold offset is one rule. These are
-- definitions.
use Rattle.std.specs.Prelude.{Bool, ◌&&◌, ◌||◌, cond, List, [], ◌∷◌, map, ℕ, ◌-◌, ◌/◌, ◌%◌, ltb, leb, eqb, length, get_or}
use Rattle.tables.specs.Least.{all_from}
use Rattle.tables.specs.Sets.{byte}
use Rattle.frames.specs.Frames.{hold, is_hold, frames}

-- a number is a frame by so many rules: a move with that byte (card), or 256 × k, a hold of rule k, for a k up to `count`
unfoldable pub is_frame : (count frame : ℕ) → Bool
is_frame c g = ltb g hold || (eqb (g % hold) 0 && leb (g / hold) c)

-- a frame that names one of these rules: a hold
unfoldable pub names_rule : (count frame : ℕ) → Bool
names_rule c g = is_hold g && is_frame c g

-- a hold of rule k becomes the byte (card) that rule k holds, and each move its byte
unfoldable pub restored_byte : (held : List ℕ) → (frame : ℕ) → ℕ
restored_byte hs g = cond (names_rule (length hs) g) (get_or hs (g / hold - 1) 0) g

-- frames put back, by the bytes that the rules hold, in their order
unfoldable pub all_restored : (held frames : List ℕ) → List ℕ
all_restored hs gs = map (restored_byte hs) gs

-- frames put back by one rule: each hold becomes w(q) again and each move its byte
unfoldable pub restored : (q : ℕ) → (w frames : List ℕ) → List ℕ
restored q w gs = all_restored (byte w q ∷ []) gs

-- entry i is a frame by one rule, and what is put back converts to it again
unfoldable pub converts_again : (q : ℕ) → (w frames : List ℕ) → (i : ℕ) → Bool
converts_again q w gs i = is_frame 1 (get_or gs i 0) && eqb (get_or (frames q w (restored q w gs)) i 0) (get_or gs i 0)

-- frames are a conversion under the pattern (motif) w and the hold offset (hold place) q: each of them is converted to again
unfoldable pub is_conversion : (q : ℕ) → (w frames : List ℕ) → Bool
is_conversion q w gs = all_from (length gs) 0 (converts_again q w gs)
