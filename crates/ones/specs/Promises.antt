-- What is promised of words (document 02, "Holes eight cards together"): a type, and its proof is in proofs/. This is a definition.
use Rattle.std.specs.Prelude.{List, ◌≡◌, ℕ}
use Rattle.std.specs.Int.Count.{ones}
use Rattle.answers.specs.Bytes.{Bytes}
use Rattle.ones.specs.Ones.{ones_of}
use Rattle.ones.specs.Words.{word_of}

-- for any eight cards the word's count is the sum of theirs; and so for any number of cards
unfoldable pub WordCounted : Type 0
WordCounted = (bytes : List ℕ) → Bytes bytes → ones (word_of bytes) ≡ ones_of bytes
