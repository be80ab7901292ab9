-- Going on and going back around a ring are inverse to each other (`on_inverse`, `back_inverse`);
-- and a position counted from the other end. By the laws of remainders.
use mathlib.Core.Bool.{Bool, true, false}
use mathlib.Core.Logic.{⊎_elim}
use mathlib.Core.Path.{◌≡◌, refl, sym, ◌∙◌, ap}
use Prim.Native.Nat.{ℕ, ◌+◌, ◌-◌, ◌%◌, ◌≤◌, ◌<◌}
use native.Mathlib.Nat.{mod-lt, mod-eq_of_lt, mod-add-mod, add-mod-mod, add-mod_right, mod-eq-sub-mod}
use native.Mathlib.Omega.{arith}
use borrow.Author.Tests.{eqb-true, eq-eqb}
use lib.Dec.{eqb}
use Rattle.tables.proofs.Cases.{le_or_lt}
use Rattle.ring.specs.Ring.{back}

-- two tests of which each holds where the other does
pub same_test : (x y : Bool) → (x ≡ true → y ≡ true) → (y ≡ true → x ≡ true) → x ≡ y
same_test true y h h' = sym (h refl)
same_test false true h h' = h' refl
same_test false false h h' = refl

-- on the numbers below n, g is the inverse of f
pub record Inverse (n : ℕ) (f g : ℕ → ℕ) : Type 0 where
  pub inside : (b : ℕ) → b < n → f b < n
  pub inside_back : (i : ℕ) → i < n → g i < n
  pub undone : (b : ℕ) → b < n → g (f b) ≡ b
  pub redone : (i : ℕ) → i < n → f (g i) ≡ i

module _ {n : ℕ} {f g : ℕ → ℕ} (v : Inverse n f g) where
  -- then f is the inverse of g
  inverse_back : Inverse n g f
  inverse_back = record { inside = v.inside_back; inside_back = v.inside; undone = v.redone; redone = v.undone }

  -- f b is i just where b is g i
  pub inverse_test : (b i : ℕ) → b < n → i < n → eqb (f b) i ≡ eqb b (g i)
  inverse_test b i l l' =
      same_test _ _
      (λ e. eq-eqb _ _ (sym (v.undone b l) ∙ ap g (eqb-true (f b) i e)))
      (λ e. eq-eqb _ _ (ap f (eqb-true b (g i) e) ∙ v.redone i l'))

  -- f of different numbers is different
  pub inverse_once : (a b : ℕ) → a < n → b < n → f a ≡ f b → a ≡ b
  inverse_once a b l l' e = sym (v.undone a l) ∙ ap g e ∙ v.undone b l'

module _ (n : ℕ) (some : 1 ≤ n) where
  pub back_inside : (i k : ℕ) → back n i k < n
  unfolding back
  back_inside i k = mod-lt (i + (n - k % n)) some

  -- k back and then k on is a full turn
  full_turn : (i k : ℕ) → (i + (n - k % n) + k) % n ≡ i % n
  full_turn i k =
      let small = mod-lt k some in
      let whole : i + (n - k % n) + k % n ≡ i + n = omega arith in
      sym (add-mod-mod (i + (n - k % n)) k n) ∙ rw whole (add-mod_right i n)

  pub back_on : (i k : ℕ) → (back n i k + k) % n ≡ i % n
  unfolding back
  back_on i k = mod-add-mod (i + (n - k % n)) n k ∙ full_turn i k

  pub on_back : (i k : ℕ) → back n ((i + k) % n) k ≡ i % n
  unfolding back
  on_back i k =
      let moved : i + k + (n - k % n) ≡ i + (n - k % n) + k = omega arith in
      mod-add-mod (i + k) n (n - k % n) ∙ rw moved (full_turn i k)

  -- k back and then r on is r on and then k back
  pub back_moved : (i k r : ℕ) → (back n i k + r) % n ≡ back n ((i + r) % n) k
  unfolding back
  back_moved i k r =
      let moved : i + (n - k % n) + r ≡ i + r + (n - k % n) = omega arith in
      mod-add-mod (i + (n - k % n)) n r ∙ rw moved (sym (mod-add-mod (i + r) n (n - k % n)))

  -- a multiple of n between 1 and 2 × n - 1 is n
  one_turn : (z : ℕ) → 1 ≤ z → z < n + n → z % n ≡ 0 → z ≡ n
  one_turn z l u e =
      ⊎_elim
      (λ v.
      let rest : z - n < n = omega arith in
      omega (arith, mod-eq-sub-mod v, mod-eq_of_lt rest))
      (λ v. absurd (omega (arith, mod-eq_of_lt v)))
      (le_or_lt n z)

  -- positions whose sum is n - 1 around the ring: each is the other, counted from the other end
  pub other_end : (x y : ℕ) → (x + y + 1) % n ≡ 0 → n - 1 - x % n ≡ y % n
  other_end x y e =
      let (small, small') : (x % n < n) × (y % n < n) = (mod-lt x some, mod-lt y some) in
      let (moved, moved') : (x % n + 1 + y ≡ x % n + (y + 1)) × (x + (y + 1) ≡ x + y + 1) = (omega arith, omega arith) in
      let apart : (x % n + 1 + y % n) % n ≡ 0 =
      add-mod-mod (x % n + 1) y n ∙ rw (moved, mod-add-mod x n (y + 1), moved') e in
      omega (arith, one_turn (x % n + 1 + y % n) (omega arith) (omega arith) apart)

pub on_inverse : (n k : ℕ) → Inverse n (λ b. (b + k) % n) (λ i. back n i k)
on_inverse n k =
    record {
      inside = λ b l. mod-lt (b + k) (omega arith);
      inside_back = λ i l. back_inside n (omega arith) i k;
      undone = λ b l. on_back n (omega arith) b k ∙ mod-eq_of_lt l;
      redone = λ i l. back_on n (omega arith) i k ∙ mod-eq_of_lt l;
    }

pub back_inverse : (n k : ℕ) → Inverse n (λ b. back n b k) (λ i. (i + k) % n)
back_inverse n k = inverse_back (on_inverse n k)
