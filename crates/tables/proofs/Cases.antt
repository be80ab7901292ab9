-- Cases on a test, on two numbers, on two tests that do not both hold, and on two that are compared.
-- By the tests of the numbers, and by cases on the first test.
use mathlib.Core.Bool.{Bool, true, false, ◌&&◌, not, beq, true≢false}
use mathlib.Core.Logic.{◌≢◌, ◌⊎◌, inl, inr, ⊎_elim}
use mathlib.Core.Path.{◌≡◌, refl, sym, ◌∙◌}
use Prim.Native.Nat.{ℕ, ◌≤◌, ◌<◌}
use borrow.Author.Tests.{leb-true, leb-false, eqb-true, eqb-false}
use lib.Dec.{leb, eqb}

pub true_or_false : (t : Bool) → (t ≡ true) ⊎ (t ≡ false)
true_or_false true = inl refl
true_or_false false = inr refl

pub le_or_lt : (a b : ℕ) → (a ≤ b) ⊎ (b < a)
le_or_lt a b = ⊎_elim (λ e. inl (leb-true a b e)) (λ e. inr (leb-false a b e)) (true_or_false (leb a b))

pub eq_or_ne : (a b : ℕ) → (a ≡ b) ⊎ (a ≢ b)
eq_or_ne a b = ⊎_elim (λ e. inl (eqb-true a b e)) (λ e. inr (eqb-false a b e)) (true_or_false (eqb a b))

-- no test is both true and false
pub clash : (t : Bool) → t ≡ true → t ≡ false → ⊥
clash t p q = true≢false (sym p ∙ q)

pub and_fails : (a b : Bool) → a && b ≡ false → (a ≡ false) ⊎ (b ≡ false)
and_fails true b e = inr e
and_fails false b e = inl refl

-- two tests that are compared by a third
pub unequal : (a b : Bool) → not (beq a b) ≡ true → a ≡ b → ⊥
unequal true true e same = true≢false (sym e)
unequal true false e same = true≢false same
unequal false true e same = true≢false (sym same)
unequal false false e same = true≢false (sym e)

pub equal : (a b : Bool) → not (beq a b) ≡ false → a ≡ b
equal true true e = refl
equal true false e = absurd (true≢false e)
equal false true e = absurd (true≢false e)
equal false false e = refl
