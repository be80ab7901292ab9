-- Positions of a ring after its order is reversed: `reversed_position` is below n, and below n it is its own inverse (`reversed_inverse`).
-- From position b reversed, m + b further on is full turns; from no other position below n it is.
use mathlib.Core.Path.{◌≡◌, ◌∙◌}
use Prim.Native.Nat.{ℕ, ◌+◌, ◌-◌, ◌%◌, ◌≤◌, ◌<◌}
use native.Mathlib.Nat.{zero-add, mod_self, mod-eq_of_lt, add-mod_left}
use native.Mathlib.Omega.{arith}
use Rattle.ring.proofs.Back.{Inverse, back_inside, back_on, on_back}
use Rattle.ring.specs.Ring.{back}
use Rattle.turn_laws.specs.Promises.{reversed_position}

module _ (m n : ℕ) (some : 1 ≤ n) where
  -- from b reversed, m + b further on is full turns
  pub reversed_turn : (b : ℕ) → (reversed_position m n b + (m + b)) % n ≡ 0
  reversed_turn b = back_on n some n (m + b) ∙ mod_self n

  pub reversed_inside : (b : ℕ) → reversed_position m n b < n
  reversed_inside b = back_inside n some n (m + b)

  -- k back from 0 is k back from a full turn
  from_zero : (k : ℕ) → back n n k ≡ back n 0 k
  unfolding back
  from_zero k = rw zero-add (add-mod_left n (n - k % n))

  -- only from b reversed is it so
  pub reversed_only : (a b : ℕ) → a < n → (a + (m + b)) % n ≡ 0 → reversed_position m n b ≡ a
  reversed_only a b l e = from_zero (m + b) ∙ rw e at (on_back n some a (m + b)) ∙ mod-eq_of_lt l

  pub reversed_twice : (b : ℕ) → b < n → reversed_position m n (reversed_position m n b) ≡ b
  reversed_twice b l =
      let moved : reversed_position m n b + (m + b) ≡ b + (m + reversed_position m n b) = omega arith in
      reversed_only b (reversed_position m n b) l (rw moved at (reversed_turn b))

pub reversed_inverse : (m n : ℕ) → Inverse n (reversed_position m n) (reversed_position m n)
reversed_inverse m n =
    record {
      inside = λ b l. reversed_inside m n (omega arith) b;
      inside_back = λ b l. reversed_inside m n (omega arith) b;
      undone = λ b l. reversed_twice m n (omega arith) b l;
      redone = λ b l. reversed_twice m n (omega arith) b l;
    }
