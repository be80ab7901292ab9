-- Every pair of a pattern (motif) and a text (ring) of a size, of bytes (cards) 00 and 01 (document
-- 02, "The dearest job"). These are definitions.
use Rattle.std.specs.Prelude.{List, [], ◌∷◌, ◌++◌, ℕ, zero, suc, ◌+◌, ◌*◌, ◌/◌, ◌%◌, ◌^◌, length}

-- a pattern (motif) and a text (ring)
pub record Pair : Type 0 where
  pub pattern : List ℕ
  pub text : List ℕ

abbrev pub pair : (w t : List ℕ) → Pair
pair w t = record { pattern = w; text = t }

-- bytes read as a binary number, the first the highest
unfoldable pub number : List ℕ → ℕ
number [] = 0
number (b ∷ bs) = b * 2 ^ length bs + number bs

-- the bytes 00 and 01, so many, that are read as this number
unfoldable pub binary : (count number : ℕ) → List ℕ
binary zero v = []
binary (suc k) v = v / 2 ^ k % 2 ∷ binary k v

-- a pattern with so many texts of n bytes, rising from text r on
unfoldable pub texts_from : (count r : ℕ) → (w : List ℕ) → (n : ℕ) → List Pair
texts_from zero r w n = []
texts_from (suc k) r w n = pair w (binary n r) ∷ texts_from k (suc r) w n

-- so many patterns of m bytes, rising from pattern v on, and within each every text of n bytes,
-- rising from 0
unfoldable pub patterns_from : (count v m n : ℕ) → List Pair
patterns_from zero v m n = []
patterns_from (suc k) v m n = texts_from (2 ^ n) 0 (binary m v) n ++ patterns_from k (suc v) m n

-- every pair of m and n bytes: patterns first and texts within, rising from 0
unfoldable pub pairs : (m n : ℕ) → List Pair
pairs m n = patterns_from (2 ^ m) 0 m n
