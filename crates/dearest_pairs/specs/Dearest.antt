-- The dearest of some pairs: the first whose search makes the most comparisons (document 02, "The
-- dearest job"). These are definitions.
use Rattle.std.specs.Prelude.{cond, List, [], ◌∷◌, ℕ, max, eqb, length}
use Rattle.steps.specs.Steps.{comparisons}
use Rattle.dearest_pairs.specs.Pairs.{Pair, pair}

-- C of a pair: the comparisons (looks) of a search for its pattern in its text, a ring
unfoldable pub cost : Pair → ℕ
cost x = length (comparisons x.pattern x.text)

-- the greatest C of some pairs
unfoldable pub greatest : List Pair → ℕ
greatest [] = 0
greatest (x ∷ xs) = max (cost x) (greatest xs)

-- the first of some pairs that has this C
unfoldable pub first_with : (C : ℕ) → List Pair → Pair
first_with C [] = pair [] []
first_with C (x ∷ xs) = cond (eqb (cost x) C) x (first_with C xs)

-- the first of some pairs that has the greatest C
unfoldable pub dearest : List Pair → Pair
dearest xs = first_with (greatest xs) xs
