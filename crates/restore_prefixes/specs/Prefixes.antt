-- Prefixes of a pattern that end at a position of a text, the longest of them, and Knuth, Morris and Pratt's links; over any text as in the
-- steps: f shows the byte (card) at a position. These are definitions.
use Rattle.std.specs.Prelude.{Bool, ◌&&◌, cond, List, ℕ, zero, suc, ◌+◌, ◌-◌, leb, eqb, length}
use Rattle.tables.specs.Least.{all_from}
use Rattle.tables.specs.Sets.{byte}

-- the prefix of length k ends before position x: k is at most x, and f(x - k + j) = w(j) for each j below k
unfoldable pub ends : (f : ℕ → ℕ) → (w : List ℕ) → (x k : ℕ) → Bool
ends f w x k = leb k x && all_from k 0 (λ j. eqb (f (x - k + j)) (byte w j))

-- the length of the longest prefix of at most k bytes that ends before x
unfoldable pub longest_within : (k : ℕ) → (f : ℕ → ℕ) → (w : List ℕ) → (x : ℕ) → ℕ
longest_within zero f w x = 0
longest_within (suc k) f w x =
    let shorter = longest_within k f w x in
    cond (ends f w x (suc k)) (suc k) shorter

-- the length of the longest prefix, the whole pattern included, that ends before x
unfoldable pub longest_prefix : (f : ℕ → ℕ) → (w : List ℕ) → (x : ℕ) → ℕ
longest_prefix f w x = longest_within (length w) f w x

-- the link of the prefix of length k (its longest border): the longest shorter prefix that ends where it ends; 0 for k up to 1
unfoldable pub link : (w : List ℕ) → (k : ℕ) → ℕ
link w k = longest_within (k - 1) (byte w) w k

-- the text that is the first k bytes of the pattern and then the byte c; what it shows after that is not looked at
abbrev pub followed : (w : List ℕ) → (k c : ℕ) → (x : ℕ) → ℕ
followed w k c x = cond (eqb x k) c (byte w x)

-- the longest prefix that ends after that c (Knuth, Morris and Pratt's step from k by c)
unfoldable pub extended : (w : List ℕ) → (k c : ℕ) → ℕ
extended w k c = longest_prefix (followed w k c) w (suc k)
