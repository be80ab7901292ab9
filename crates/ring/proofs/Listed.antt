-- Which numbers a list has: the numbers that pass a test, a list moved by a function, and how many
-- there are below n. By induction on the list or on the run.
use mathlib.Core.Bool.{Bool, true, false, ◌||◌}
use mathlib.Core.List.{List, [], ◌∷◌, map}
use mathlib.Core.Logic.{◌≢◌, ⊎_elim}
use mathlib.Core.Path.{◌≡◌, refl, sym, ◌∙◌, ap}
use Prim.Native.Nat.{ℕ, zero, suc, ◌+◌, ◌≤◌, ◌<◌}
use native.Mathlib.Nat.{eq-or-lt_of_le}
use native.Mathlib.Omega.{arith}
use borrow.Author.Tests.{eq-eqb, ne_eqb}
use lib.Dec.{eqb}
use lib.ListN.{length}
use Rattle.tables.proofs.Cases.{true_or_false, eq_or_ne, clash}
use Rattle.ring.proofs.Ascending.{Ascends, passing_ascends, passing_same, passing_none}
use Rattle.ring.proofs.Back.{Inverse, inverse_test, inverse_once}
use Rattle.ring.specs.Ring.{is_in, passing, ascending}

-- a number is among those of a run that pass just where it passes, if it then is one of the run
pub is_in_passing : (n low i : ℕ) (f : ℕ → Bool) → (f i ≡ true → (low ≤ i) × (i < low + n)) → is_in (passing n low f) i ≡ f i
unfolding passing is_in
is_in_passing zero low i f inside =
    ⊎_elim (λ y. let (l, u) = inside y in absurd (omega arith)) (λ y. sym y) (true_or_false (f i))
is_in_passing (suc n) low i f inside =
    let later : (f i ≡ true → low ≢ i) → is_in (passing n (suc low) f) i ≡ f i = λ other.
    is_in_passing n (suc low) i f (λ y. let (l, u) = inside y in (omega (arith, other y), omega arith)) in
    ⊎_elim
    (λ y. rw y (⊎_elim (λ e. rw (eq-eqb low i e) (sym (rw e at y))) (λ d. rw (ne_eqb low i d) (later (λ x. d))) (eq_or_ne low i)))
    (λ y. rw y (later (λ x e. clash (f i) x (rw e at y))))
    (true_or_false (f low))

-- one number more passes
one_more :
    (n low x : ℕ) (test : ℕ → Bool) → low ≤ x → x < low + n → test x ≡ false →
    length (passing n low (λ i. eqb x i || test i)) ≡ suc (length (passing n low test))
unfolding passing
one_more zero low x test l u none = absurd (omega arith)
one_more (suc n) low x test l u none =
    ⊎_elim
    (λ e.
    let rest = passing_same n (suc low) (λ i. eqb x i || test i) test (λ k g h. rw (ne_eqb x k (λ d. omega arith))) in
    let none' : test low ≡ false = rw e none in
    rw (eq-eqb x low (sym e), rest, none'))
    (λ g.
    let later = one_more n (suc low) x test g (omega arith) none in
    rw (ne_eqb x low (λ e. omega arith))
    (⊎_elim (λ y. rw y (ap suc later)) (λ y. rw y later) (true_or_false (test low))))
    (eq-or-lt_of_le l)

-- numbers below n, ascending, moved by a function that has an inverse there
module _ {n : ℕ} {f g : ℕ → ℕ} (v : Inverse n f g) where
  -- i is among them just where the number that is moved to it is in the list
  is_in_moved : (low i : ℕ) (bs : List ℕ) → Ascends low n bs → i < n → is_in (map f bs) i ≡ is_in bs (g i)
  unfolding is_in
  is_in_moved low i [] a l = refl
  is_in_moved low i (b ∷ later) a l = rw (inverse_test v b i a.1 l, is_in_moved (suc b) i later a.2 l)

  -- of those that pass a test, just where that number passes
  pub is_in_passing_moved : (test : ℕ → Bool) (i : ℕ) → i < n → is_in (map f (passing n 0 test)) i ≡ test (g i)
  is_in_passing_moved test i l =
      is_in_moved 0 i (passing n 0 test) (passing_ascends n 0 n test (omega arith)) l
      ∙ is_in_passing n 0 (g i) test (λ y. (omega arith, omega (arith, v.inside_back i l)))

  -- where each number passes a test just where the one that is moved to it passes another, those
  -- that pass are those of the other, moved, ascending again
  pub passing_moved :
      (test other : ℕ → Bool) → ((i : ℕ) → i < n → test i ≡ other (g i)) → passing n 0 test ≡ ascending n (map f (passing n 0 other))
  unfolding ascending
  passing_moved test other same =
      passing_same n 0 test _ (λ i l h. same i (omega arith) ∙ sym (is_in_passing_moved other i (omega arith)))

  -- a number before them is moved to none of theirs
  moved_apart : (low b : ℕ) (bs : List ℕ) → b < low → b < n → Ascends low n bs → is_in (map f bs) (f b) ≡ false
  unfolding is_in
  moved_apart low b [] l h a = refl
  moved_apart low b (c ∷ later) l h a =
      rw (ne_eqb (f c) (f b) (λ e. omega (arith, inverse_once v c b a.1 h e))) (moved_apart (suc c) b later (omega arith) h a.2)

  -- they are as many
  pub ascending_count : (low : ℕ) (bs : List ℕ) → Ascends low n bs → length (ascending n (map f bs)) ≡ length bs
  unfolding ascending is_in
  ascending_count low [] a = rw (passing_none n 0)
  ascending_count low (b ∷ later) a =
      one_more n 0 (f b) (is_in (map f later)) (omega arith) (omega (arith, v.inside b a.1)) (moved_apart (suc b) b later (omega arith) a.1 a.2)
      ∙ ap suc (ascending_count (suc b) later a.2)
