-- Signed 16-bit numbers as the code has them: small numbers read back from their bits, their differences and sums, and tests of these.
-- A difference of two numbers is one of two forms, by their order.
use mathlib.Core.Bool.{false}
use mathlib.Core.Logic.{⊎_elim}
use mathlib.Core.Path.{◌≡◌, refl, sym, ◌∙◌, ap}
use Prim.Native.Nat.{ℕ, zero, suc, ◌+◌, ◌-◌, ◌^◌, ◌≤◌, ◌<◌}
use native.Mathlib.Omega.{arith}
use borrow.Author.Tests.{lt-ltb, le-ltb, le-leb, lt-leb}
use lib.Dec.{ltb, leb}
use lib.IntN.{ℤ, pos, negsuc, sub_ℕ, ◌+ℤ◌, ◌-ℤ◌, -ℤ-+ℤ_cancel}
use lib.Signed.{le_z, lt_z}
use mir.Syntax.{w16}
use mir.Val.{SFits, to_z, of_z}
use mir.ValLaws.{to_z_pos, to_z-of_z}
use Rattle.tables.proofs.Cases.{le_or_lt}

pub subℕ_pos : (a b : ℕ) → b ≤ a → sub_ℕ a b ≡ pos (a - b)
subℕ_pos a b h = rw (le-ltb a b h)

by_order : (P : ℤ → Type 0) (a b : ℕ) → (a < b → P (negsuc (b - suc a))) → (b ≤ a → P (pos (a - b))) → P (sub_ℕ a b)
by_order P a b under over = ⊎_elim (λ h. rw (subℕ_pos a b h) (over h)) (λ h. rw (lt-ltb a b h) (under h)) (le_or_lt b a)

pos_minus : (a b : ℕ) → pos a -ℤ pos b ≡ sub_ℕ a b
pos_minus a zero = rw (subℕ_pos a 0 (omega arith)) (ap pos (omega arith))
pos_minus a (suc b) = refl

-- a number taken away and added again
pub minus_plus : (a b : ℕ) → sub_ℕ a b +ℤ pos b ≡ pos a
minus_plus a b = rw (pos_minus a b) at (-ℤ-+ℤ_cancel (pos a) (pos b))

module _ (a b : ℕ) (ha : a < 2 ^ 15) (hb : b < 2 ^ 15) where
  pub difference : to_z w16 a -ℤ to_z w16 b ≡ sub_ℕ a b
  difference = rw (to_z_pos w16 a ha, to_z_pos w16 b hb) (pos_minus a b)

  pub difference_fits : SFits w16 (sub_ℕ a b)
  difference_fits = by_order (SFits w16) a b (λ h. record { sfits = omega (arith, hb) }) (λ h. record { sfits = omega (arith, ha) })

  pub difference_back : to_z w16 (of_z w16 (sub_ℕ a b)) ≡ sub_ℕ a b
  difference_back = to_z-of_z w16 (sub_ℕ a b) difference_fits

pub predecessor : (a : ℕ) → 1 ≤ a → a < 2 ^ 15 → to_z w16 a -ℤ pos 1 ≡ pos (a - 1)
predecessor a l u = difference a 1 u (omega arith) ∙ subℕ_pos a 1 l

-- a test of a difference is a test of the two numbers
pub at_least_zero : (a b : ℕ) → le_z (pos 0) (sub_ℕ a b) ≡ leb b a
at_least_zero a b =
    by_order (λ z. le_z (pos 0) z ≡ leb b a) a b (λ h. sym (lt-leb b a h)) (λ h. rw (le-leb b a h) (le-leb 0 (a - b) (omega arith)))

pub below_zero : (a b : ℕ) → lt_z (sub_ℕ a b) (pos 0) ≡ ltb a b
below_zero a b =
    by_order (λ z. lt_z z (pos 0) ≡ ltb a b) a b (λ h. sym (lt-ltb a b h)) (λ h. rw (le-ltb a b h) (le-ltb (a - b) 0 (omega arith)))

pub exceeds : (l a b : ℕ) → lt_z (pos l) (sub_ℕ a b) ≡ ltb (l + b) a
exceeds l a b =
    ⊎_elim
    (λ q. rw (le-ltb (l + b) a q) (by_order (λ z. lt_z (pos l) z ≡ false) a b (λ h. refl) (λ h. le-ltb l (a - b) (omega arith))))
    (λ q. rw (lt-ltb (l + b) a q, subℕ_pos a b (omega arith)) (lt-ltb l (a - b) (omega arith)))
    (le_or_lt a (l + b))
