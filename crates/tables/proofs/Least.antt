-- Laws of the least number that passes, of a run that passes, and of Pos and Neg, as propositions: after them no proof unfolds these.
-- The runs by induction on their length; the sets by their tests.
use mathlib.Core.Bool.{Bool, true, false, ◌&&◌, not, cond, true≢false, and-eq-true_iff}
use mathlib.Core.List.{List}
use mathlib.Core.Logic.{◌↔◌, ⊎_elim}
use mathlib.Core.Path.{◌≡◌, refl, sym, subst}
use Prim.Native.Nat.{ℕ, zero, suc, ◌+◌, ◌-◌, ◌≤◌, ◌<◌}
use native.Mathlib.Nat.{eq-or-lt_of_le}
use native.Mathlib.Omega.{arith}
use Rattle.tables.proofs.Cases.{eq_or_ne, clash, and_fails}
use borrow.Author.Tests.{leb-true, eqb-true, eqb-false, le-leb, eq-eqb, ne_eqb, not-true, not-false}
use lib.Dec.{leb, eqb}
use lib.IntN.{pos, negsuc}
use Rattle.tables.specs.Facts.{InPos, InNeg, OutNeg}
use Rattle.tables.specs.Least.{least_from, all_from}
use Rattle.tables.specs.Sets.{byte, outside, Pos, Neg}

-- v is the least of the numbers from i on that passes, where one of the first n does, and else the number after those
pub record Least (n i : ℕ) (f : ℕ → Bool) (v : ℕ) : Type 0 where
  pub low : i ≤ v
  pub high : v ≤ i + n
  pub passes : v < i + n → f v ≡ true
  pub before : (k : ℕ) → i ≤ k → k < v → f k ≡ false

pub least_facts : (n i : ℕ) (f : ℕ → Bool) → Least n i f (least_from n i f)
unfolding least_from
least_facts zero i f = record { low = omega arith; high = omega arith; passes = λ h. absurd (omega arith); before = λ k l h. absurd (omega arith) }
least_facts (suc n) i f = go (f i) refl (least_facts n (suc i) f)
  where
    go : (z : Bool) → f i ≡ z → Least n (suc i) f (least_from n (suc i) f) → Least (suc n) i f (cond z i (least_from n (suc i) f))
    go true e r = record { low = omega arith; high = omega arith; passes = λ h. e; before = λ k l h. absurd (omega arith) }
    go false e r = record {
      low = omega arith;
      high = omega arith;
      passes = λ h. r.passes (omega arith);
      before = λ k l h. ⊎_elim (λ q. subst (λ (x : ℕ). f x ≡ false) q e) (λ g. r.before k g h) (eq-or-lt_of_le l);
    }

-- where some number of the run passes, the least one is at or before it and passes
pub least_found :
    (n i : ℕ) (f : ℕ → Bool) (k : ℕ) → i ≤ k → k < i + n → f k ≡ true →
    (least_from n i f ≤ k) × (f (least_from n i f) ≡ true)
least_found n i f k l h e =
    let r = least_facts n i f in
    let not_later : ¬ (k < least_from n i f) = λ q. clash (f k) e (r.before k l q) in
    (omega arith, r.passes (omega arith))

-- a run passes just where each of its numbers does
pub all_each : (n i : ℕ) (f : ℕ → Bool) → all_from n i f ≡ true → (k : ℕ) → i ≤ k → k < i + n → f k ≡ true
unfolding all_from
all_each zero i f e k l h = absurd (omega arith)
all_each (suc n) i f e k l h =
    ⊎_elim
    (λ q. subst (λ (x : ℕ). f x ≡ true) q ((and-eq-true_iff (f i) _).0 e).0)
    (λ g. all_each n (suc i) f ((and-eq-true_iff (f i) _).0 e).1 k g (omega arith))
    (eq-or-lt_of_le l)

pub each_all : (n i : ℕ) (f : ℕ → Bool) → ((k : ℕ) → i ≤ k → k < i + n → f k ≡ true) → all_from n i f ≡ true
unfolding all_from
each_all zero i f h = refl
each_all (suc n) i f h = rw (h i (omega arith) (omega arith)) (each_all n (suc i) f (λ k l g. h k (omega arith) (omega arith)))

-- tests that agree pass alike
pub all_same : (n i : ℕ) (f g : ℕ → Bool) → ((k : ℕ) → f k ≡ g k) → all_from n i f ≡ all_from n i g
unfolding all_from
all_same zero i f g h = refl
all_same (suc n) i f g h = rw (h i, all_same n (suc i) f g h)

-- a run that fails has a number that fails
pub some_fails : (n i : ℕ) (f : ℕ → Bool) → all_from n i f ≡ false → (k : ℕ) × (i ≤ k) × (k < i + n) × (f k ≡ false)
unfolding all_from
some_fails zero i f e = absurd (true≢false e)
some_fails (suc n) i f e =
    ⊎_elim
    (λ q. (i, omega arith, omega arith, q))
    (λ q. let (k, l, u, fails) = some_fails n (suc i) f q in (k, omega arith, omega arith, fails))
    (and_fails (f i) (all_from n (suc i) f) e)

-- a run up to n, as a loop goes over it: nothing is left at n, and before it one number and then the rest
pub run_over : (f : ℕ → Bool) (n x : ℕ) → n ≤ x → all_from (n - x) x f ≡ true
unfolding all_from
run_over f n x h = let none : n - x ≡ 0 = omega arith in rw none

pub run_on : (f : ℕ → Bool) (n x : ℕ) → x < n → all_from (n - x) x f ≡ f x && all_from (n - suc x) (suc x) f
unfolding all_from
run_on f n x h = let some : n - x ≡ suc (n - suc x) = omega arith in rw some

-- Pos and Neg at a position of the pattern are what Facts says of them
pub pos_iff : (w : List ℕ) (c i k : ℕ) → (Pos w c (pos i) k ≡ true) ↔ InPos w c i k
unfolding Pos
pos_iff w c i k =
    let same = eqb (byte w (i - k)) c in (
      λ e. (leb-true k i ((and-eq-true_iff (leb k i) same).0 e).0, eqb-true _ _ ((and-eq-true_iff (leb k i) same).0 e).1),
      λ h. simp (le-leb k i h.0, eq-eqb (byte w (i - k)) c h.1),
    )

pub neg_iff : (w : List ℕ) (c i k : ℕ) → (Neg w c (pos i) k ≡ true) ↔ InNeg w c i k
unfolding Neg
neg_iff w c i k =
    let different = not (eqb (byte w (i - k)) c) in (
      λ e. (leb-true k i ((and-eq-true_iff (leb k i) _).0 e).0, eqb-false _ _ (not-true _ ((and-eq-true_iff (leb k i) different).0 e).1)),
      λ h. simp (le-leb k i h.0, ne_eqb (byte w (i - k)) c h.1),
    )

pub outside_iff : (w : List ℕ) (c i k : ℕ) → (outside (Neg w c (pos i)) k ≡ true) ↔ OutNeg w c i k
outside_iff w c i k = go (Neg w c (pos i) k) refl
  where
    go : (z : Bool) → Neg w c (pos i) k ≡ z → (not z ≡ true) ↔ OutNeg w c i k
    go true e = let (l, differs) = (neg_iff w c i k).0 e in (λ q. absurd (true≢false (sym q)), λ h. absurd (differs (h l)))
    go false e = (λ q l. ⊎_elim (λ s. s) (λ d. absurd (clash _ ((neg_iff w c i k).1 (l, d)) e)) (eq_or_ne (byte w (i - k)) c), λ h. refl)

pub outside_fails : (w : List ℕ) (c i k : ℕ) → outside (Neg w c (pos i)) k ≡ false → InNeg w c i k
outside_fails w c i k e = (neg_iff w c i k).0 (not-false (Neg w c (pos i) k) e)

-- Neg at -1 is empty
pub outside_empty : (w : List ℕ) (c i k : ℕ) → outside (Neg w c (negsuc i)) k ≡ true
unfolding Neg
outside_empty w c i k = refl
