-- A test that all numbers below a bound pass, computed once, holds at each of them: how a table's rule is shown.
-- By induction on the bound.
use mathlib.Core.Bool.{Bool, true, ◌&&◌, and-eq-true_iff}
use mathlib.Core.Logic.{⊎_elim}
use mathlib.Core.Path.{◌≡◌, sym, subst}
use Prim.Native.Nat.{ℕ, zero, suc, ◌<◌}
use native.Mathlib.Nat.{not-suc-le-zero, le_of_suc-le-suc, eq-or-lt_of_le}

pub and_left : (a b : Bool) → a && b ≡ true → a ≡ true
and_left a b e = ((and-eq-true_iff a b).0 e).0

pub and_right : (a b : Bool) → a && b ≡ true → b ≡ true
and_right a b e = ((and-eq-true_iff a b).0 e).1

-- each number below the bound passes
abbrev pub below : (bound : ℕ) → (test : ℕ → Bool) → Bool
below zero f = true
below (suc n) f = f n && below n f

pub at : (bound : ℕ) (test : ℕ → Bool) → below bound test ≡ true → (k : ℕ) → k < bound → test k ≡ true
at zero f e k h = absurd (not-suc-le-zero h)
at (suc n) f e k h =
    ⊎_elim (λ q. subst (λ (i : ℕ). f i ≡ true) (sym q) (and_left (f n) (below n f) e)) (at n f (and_right (f n) (below n f) e) k)
    (eq-or-lt_of_le (le_of_suc-le-suc h))
