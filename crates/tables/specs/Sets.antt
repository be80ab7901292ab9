-- The pattern's bytes and Colussi's sets Pos and Neg (document 01, "The motif's tables"; document 002, section 2). These are definitions.
use Rattle.std.specs.Prelude.{Bool, false, ◌&&◌, not, List, ℕ, ◌-◌, leb, eqb, ℤ, pos, negsuc, get_or}

-- w(i), the byte (card) of the pattern (motif) at position i
abbrev pub byte : (w : List ℕ) → (i : ℕ) → ℕ
byte w i = get_or w i 0

-- a set of numbers, by the test that tells whether a number is in it
abbrev pub NumberSet : Type 0
NumberSet = ℕ → Bool

abbrev pub outside : NumberSet → ℕ → Bool
outside S k = not (S k)

-- Pos(c, i), the set of k from 0 to i with w(i - k) = c; empty for i = -1
unfoldable pub Pos : (w : List ℕ) → (c : ℕ) → (i : ℤ) → NumberSet
Pos w c (pos i) k = leb k i && eqb (byte w (i - k)) c
Pos w c (negsuc i) k = false

-- Neg(c, i), those with w(i - k) other than c; empty for i = -1
unfoldable pub Neg : (w : List ℕ) → (c : ℕ) → (i : ℤ) → NumberSet
Neg w c (pos i) k = leb k i && not (eqb (byte w (i - k)) c)
Neg w c (negsuc i) k = false
