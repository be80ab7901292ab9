-- Lists of numbers that ascend, each once: their entries, and the numbers of a run that pass a
-- test, which are such a list. By induction on the list or on the run.
use mathlib.Core.Bool.{Bool, true, false, cond}
use mathlib.Core.List.{List, [], ◌∷◌}
use mathlib.Core.Path.{◌≡◌, refl}
use Prim.Native.Nat.{ℕ, zero, suc, ◌+◌, ◌≤◌, ◌<◌}
use native.Mathlib.Omega.{arith}
use lib.ListN.{length, get_or}
use Rattle.ring.specs.Ring.{passing, StrictlyAscending}

-- the entries are from `low` on and below `high`, and each is above the one before it
abbrev pub Ascends : (low high : ℕ) → List ℕ → Type 0
Ascends low high [] = Unit {0}
Ascends low high (b ∷ later) = (low ≤ b) × (b < high) × Ascends (suc b) high later

ascends_lower : (low low' high : ℕ) (l : List ℕ) → low ≤ low' → Ascends low' high l → Ascends low high l
ascends_lower low low' high [] h a = tt
ascends_lower low low' high (b ∷ later) h a = (omega arith, a.1, a.2)

-- every entry is from `low` on, and below every later one
ascends_above : (low high : ℕ) (l : List ℕ) → Ascends low high l → (j : ℕ) → j < length l → low ≤ get_or l j 0
ascends_above low high [] a j u = absurd (omega arith)
ascends_above low high (b ∷ later) a zero u = a.0
ascends_above low high (b ∷ later) a (suc j) u = omega (arith, a.0, ascends_above (suc b) high later a.2 j (omega arith))

pub ascends_strictly : (low high : ℕ) (l : List ℕ) → Ascends low high l → StrictlyAscending l
unfolding StrictlyAscending
ascends_strictly low high [] a i j l u = absurd (omega arith)
ascends_strictly low high (b ∷ later) a i zero l u = absurd (omega arith)
ascends_strictly low high (b ∷ later) a zero (suc j) l u = ascends_above (suc b) high later a.2 j (omega arith)
ascends_strictly low high (b ∷ later) a (suc i) (suc j) l u = ascends_strictly (suc b) high later a.2 i j (omega arith) (omega arith)

pub passing_ascends : (n i high : ℕ) (f : ℕ → Bool) → i + n ≤ high → Ascends i high (passing n i f)
unfolding passing
passing_ascends zero i high f h = tt
passing_ascends (suc n) i high f h = go (f i) (passing_ascends n (suc i) high f (omega arith))
  where
    go :
        (z : Bool) → Ascends (suc i) high (passing n (suc i) f) →
        Ascends i high (cond z (i ∷ passing n (suc i) f) (passing n (suc i) f))
    go true later = (omega arith, omega arith, later)
    go false later = ascends_lower i (suc i) high (passing n (suc i) f) (omega arith) later

-- tests that agree on the run pass the same numbers
pub passing_same : (n i : ℕ) (f g : ℕ → Bool) → ((k : ℕ) → i ≤ k → k < i + n → f k ≡ g k) → passing n i f ≡ passing n i g
unfolding passing
passing_same zero i f g h = refl
passing_same (suc n) i f g h =
    rw (h i (omega arith) (omega arith), passing_same n (suc i) f g (λ k l u. h k (omega arith) (omega arith)))

pub passing_none : (n i : ℕ) → passing n i (λ k. false) ≡ []
unfolding passing
passing_none zero i = refl
passing_none (suc n) i = passing_none n (suc i)
