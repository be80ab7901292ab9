-- Positions around a ring of n (document 02, "Chains are laced into a ring"), and lists of them.
-- These are definitions.
use Rattle.std.specs.Prelude.{Bool, false, ◌||◌, cond, List, [], ◌∷◌, ℕ, zero, suc, ◌+◌, ◌-◌, ◌%◌, eqb}
use Rattle.tables.specs.Promises.{Rising}

-- i - k modulo n: the position below n from which k further on around the ring is i
unfoldable pub back : (n i k : ℕ) → ℕ
back n i k = (i + (n - k % n)) % n

-- x is in a list
unfoldable pub is_in : (xs : List ℕ) → (x : ℕ) → Bool
is_in [] x = false
is_in (y ∷ later) x = eqb y x || is_in later x

-- the numbers that pass a test among so many from i on, ascending
unfoldable pub passing : (count i : ℕ) → (test : ℕ → Bool) → List ℕ
passing zero i f = []
passing (suc n) i f = cond (f i) (i ∷ passing n (suc i) f) (passing n (suc i) f)

-- the numbers below n that are in a list, each once and ascending
unfoldable pub ascending : (n : ℕ) → (xs : List ℕ) → List ℕ
ascending n xs = passing n 0 (is_in xs)

-- each entry is below every later one
unfoldable pub StrictlyAscending : List ℕ → Type 0
StrictlyAscending xs = Rising (λ x. x) xs
