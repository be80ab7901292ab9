-- How often a number stands in a list: at its front, where it does at all, and over all numbers the list's length.
-- By induction on the lists; the sum over the numbers below a bound by induction on the bound.
use mathlib.Core.List.{List, [], ◌∷◌}
use mathlib.Core.Logic.{◌≢◌, ⊎_elim}
use mathlib.Core.Path.{◌≡◌, refl}
use Prim.Native.Nat.{ℕ, zero, suc, ◌+◌, ◌≤◌, ◌<◌}
use native.Mathlib.Omega.{arith}
use borrow.Author.Tests.{eq-eqb, ne_eqb}
use lib.ListN.{length, get_or}
use Rattle.tables.proofs.Cases.{eq_or_ne}
use Rattle.tables.specs.Promises.{times}

pub times_here : (i x : ℕ) (xs : List ℕ) → x ≡ i → times i (x ∷ xs) ≡ suc (times i xs)
unfolding times
times_here i x xs e = rw (eq-eqb x i e)

pub times_other : (i x : ℕ) (xs : List ℕ) → x ≢ i → times i (x ∷ xs) ≡ times i xs
unfolding times
times_other i x xs n = rw (ne_eqb x i n)

pub times_none : (i : ℕ) → times i [] ≡ 0
unfolding times
times_none i = refl

-- a number stands among the first c entries of a list
abbrev pub Stands : (xs : List ℕ) (c i : ℕ) → Type 0
Stands xs c i = (x : ℕ) × (x < c) × (get_or xs x 0 ≡ i)

stands_later : (x i c : ℕ) (xs : List ℕ) → Stands xs c i → Stands (x ∷ xs) (suc c) i
stands_later x i c xs (j, u, e) = (suc j, omega arith, e)

-- what is counted stands in the list
pub times_stands : (i : ℕ) (xs : List ℕ) → 1 ≤ times i xs → Stands xs (length xs) i
times_stands i [] h = absurd (omega (arith, times_none i))
times_stands i (x ∷ xs) h =
    ⊎_elim
    (λ e. (0, omega arith, e))
    (λ n. stands_later x i (length xs) xs (times_stands i xs (omega (arith, times_other i x xs n))))
    (eq_or_ne x i)

-- how often the numbers below a bound stand in a list, together
total : (bound : ℕ) → List ℕ → ℕ
total zero xs = 0
total (suc n) xs = times n xs + total n xs

total_none : (n : ℕ) → total n [] ≡ 0
unfolding total
total_none zero = refl
total_none (suc n) = omega (arith, times_none n, total_none n)

total_above : (n x : ℕ) (xs : List ℕ) → n ≤ x → total n (x ∷ xs) ≡ total n xs
unfolding total
total_above zero x xs b = refl
total_above (suc n) x xs b = rw (times_other n x xs (omega arith), total_above n x xs (omega arith))

total_below : (n x : ℕ) (xs : List ℕ) → x < n → total n (x ∷ xs) ≡ suc (total n xs)
unfolding total
total_below zero x xs b = absurd (omega arith)
total_below (suc n) x xs b =
    ⊎_elim
    (λ e. omega (arith, times_here n x xs e, total_above n x xs (omega arith)))
    (λ q. omega (arith, times_other n x xs q, total_below n x xs (omega arith)))
    (eq_or_ne x n)

-- where only numbers below n stand in a list, their total is its length
length_total : (n : ℕ) (xs : List ℕ) → ((i : ℕ) → n ≤ i → times i xs ≡ 0) → total n xs ≡ length xs
length_total n [] h = total_none n
length_total n (x ∷ xs) h =
    let below : ¬ (n ≤ x) = λ b. omega (arith, h x b, times_here x x xs refl) in
    let later = length_total n xs λ i b. omega (arith, h i b, times_other i x xs (λ e. omega arith)) in
    omega (arith, total_below n x xs (omega arith))

total_once : (n : ℕ) (xs : List ℕ) → ((i : ℕ) → i < n → times i xs ≡ 1) → total n xs ≡ n
unfolding total
total_once zero xs h = refl
total_once (suc n) xs h = omega (arith, h n (omega arith), total_once n xs (λ i b. h i (omega arith)))

-- a list in which each number below n stands once, and no other, has n entries
pub length_once :
    (n : ℕ) (xs : List ℕ) → ((i : ℕ) → i < n → times i xs ≡ 1) → ((i : ℕ) → n ≤ i → times i xs ≡ 0) → length xs ≡ n
length_once n xs once never = omega (arith, length_total n xs never, total_once n xs once)
