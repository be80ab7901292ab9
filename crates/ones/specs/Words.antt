-- Bytes put together as one number (document 02, "Holes eight cards together"). This is a definition.
use Rattle.std.specs.Prelude.{List, [], ◌∷◌, ℕ, ◌+◌, ◌*◌}

-- the word of some bytes (cards): eight bits for each, the first byte's lowest
unfoldable pub word_of : (bytes : List ℕ) → ℕ
word_of [] = 0
word_of (b ∷ bs) = b + 256 * word_of bs
