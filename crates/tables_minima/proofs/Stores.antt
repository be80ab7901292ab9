-- A table in which each entry has a property of its own, after one more entry is stored.
-- By whether the entry asked for is the one stored.
use mathlib.Core.List.{List}
use mathlib.Core.Logic.{◌≢◌, ⊎_elim}
use Prim.Native.Nat.{ℕ, ◌<◌}
use lib.ListN.{length, get_or, set}
use lib.Seq.{get_or-set_same, get_or-set_other}
use Rattle.tables.proofs.Cases.{eq_or_ne}

pub stored :
    {A : Type 0} (P : ℕ → A → Type 0) (z : A) (t : List A) (i : ℕ) (x : A) → i < length t → P i x →
    (j : ℕ) → (j ≢ i → P j (get_or t j z)) → P j (get_or (set t i x) j z)
stored P z t i x b p j other =
    ⊎_elim
    (λ q. rw q (rw (get_or-set_same t i x z b) p))
    (λ n. rw (get_or-set_other t i j x z n) (other n))
    (eq_or_ne j i)
