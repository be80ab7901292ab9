-- Which text positions a list of comparisons has compared (`ComparedAt`): those of either part of a list, and those of a row.
-- By induction on the list and on the row.
use mathlib.Core.List.{List, [], ◌∷◌, ◌++◌, map}
use mathlib.Core.Logic.{◌⊎◌, inl, inr, ⊎_elim}
use mathlib.Core.Path.{◌≡◌, refl}
use Prim.Native.Nat.{ℕ, zero, suc, ◌+◌, ◌<◌}
use native.Mathlib.Omega.{arith}
use lib.ListN.{length, get_or, take}
use Rattle.steps.specs.Promises.{ComparedAt}
use Rattle.steps.specs.Steps.{Comparison}

pub compared_before : (made more : List Comparison) (x : ℕ) → ComparedAt made x → ComparedAt (made ++ more) x
unfolding ComparedAt
compared_before [] more x h = absurd h
compared_before (c ∷ made) more x h = ⊎_elim inl (λ later. inr (compared_before made more x later)) h

pub compared_after : (made more : List Comparison) (x : ℕ) → ComparedAt more x → ComparedAt (made ++ more) x
unfolding ComparedAt
compared_after [] more x h = h
compared_after (c ∷ made) more x h = inr (compared_after made more x h)

-- the first n entries of a row are compared at b
pub compared_along :
    (b n : ℕ) (row : List ℕ) (x : ℕ) → x < n → x < length row →
    ComparedAt (map (λ i. record { pattern_position = i; text_position = b + i }) (take n row)) (b + get_or row x 0)
unfolding ComparedAt
compared_along b n [] x l u = absurd (omega arith)
compared_along b zero (i ∷ row) x l u = absurd (omega arith)
compared_along b (suc n) (i ∷ row) zero l u = inl refl
compared_along b (suc n) (i ∷ row) (suc x) l u = inr (compared_along b n row x (omega arith) (omega arith))

-- and a text position that is compared is that of one of them
pub compared_index :
    (b n : ℕ) (row : List ℕ) (y : ℕ) →
    ComparedAt (map (λ i. record { pattern_position = i; text_position = b + i }) (take n row)) y →
    (x : ℕ) × (x < n) × (x < length row) × (b + get_or row x 0 ≡ y)
unfolding ComparedAt
compared_index b zero row y h = absurd h
compared_index b (suc n) [] y h = absurd h
compared_index b (suc n) (i ∷ row) y h =
    ⊎_elim
    (λ e. (0, omega arith, omega arith, e))
    (λ later. let (x, l, u, e) = compared_index b n row y later in (suc x, omega arith, omega arith, e))
    h

-- of two parts of a list it is that of one of either
pub compared_either : (made more : List Comparison) (x : ℕ) → ComparedAt (made ++ more) x → ComparedAt made x ⊎ ComparedAt more x
unfolding ComparedAt
compared_either [] more x h = inr h
compared_either (c ∷ made) more x h =
    ⊎_elim (λ e. inl (inl e)) (λ later. ⊎_elim (λ l. inl (inr l)) inr (compared_either made more x later)) h
