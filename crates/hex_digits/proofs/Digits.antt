-- One digit: in which ranges a byte is one, its value there, and that digits and values go back and
-- forth. Each range decides the tests of `is_digit`; the laws of values are computed tests.
use mathlib.Core.Bool.{Bool, true, false, ◌||◌, not, true≢false}
use mathlib.Core.Path.{◌≡◌, refl, sym, ◌∙◌}
use Prim.Native.Nat.{ℕ, ◌-◌, ◌≤◌, ◌<◌}
use native.Mathlib.Omega.{arith}
use borrow.Author.Tests.{le-leb, lt-leb, ltb-true, eqb-true}
use lib.Dec.{ltb, eqb}
use Rattle.hex_digits.proofs.Table.{below, at}
use Rattle.hex_digits.specs.Hex.{is_digit, digit_value, digit}

pub below_digits : (b : ℕ) → b < 0x30 → is_digit b ≡ false
unfolding is_digit
below_digits b h = simp (lt-leb 0x30 b h, lt-leb 0x41 b (omega arith))

pub between_digits : (b : ℕ) → 0x39 < b → b < 0x41 → is_digit b ≡ false
unfolding is_digit
between_digits b l h = simp (le-leb 0x30 b (omega arith), lt-leb b 0x39 l, lt-leb 0x41 b h)

pub above_digits : (b : ℕ) → 0x46 < b → is_digit b ≡ false
unfolding is_digit
above_digits b l = simp (le-leb 0x30 b (omega arith), lt-leb b 0x39 (omega arith), le-leb 0x41 b (omega arith), lt-leb b 0x46 l)

pub decimal : (b : ℕ) → 0x30 ≤ b → b ≤ 0x39 → is_digit b ≡ true
unfolding is_digit
decimal b l h = simp (le-leb 0x30 b l, le-leb b 0x39 h)

pub capital : (b : ℕ) → 0x41 ≤ b → b ≤ 0x46 → is_digit b ≡ true
unfolding is_digit
capital b l h = simp (le-leb 0x30 b (omega arith), lt-leb b 0x39 (omega arith), le-leb 0x41 b l, le-leb b 0x46 h)

pub decimal_value : (b : ℕ) → b ≤ 0x39 → digit_value b ≡ b - 0x30
unfolding digit_value
decimal_value b h = simp (le-leb b 0x39 h)

pub capital_value : (b : ℕ) → 0x39 < b → digit_value b ≡ b - 0x37
unfolding digit_value
capital_value b l = simp (lt-leb b 0x39 l)

-- the digit of a value below 16 is a digit, and is read as that value
pub digit_is_digit : (v : ℕ) → v < 16 → is_digit (digit v) ≡ true
unfolding is_digit digit
digit_is_digit v h = at 16 (λ k. is_digit (digit k)) refl v h

pub value_of_digit : (v : ℕ) → v < 16 → digit_value (digit v) ≡ v
unfolding digit_value digit
value_of_digit v h = eqb-true _ _ (at 16 (λ k. eqb (digit_value (digit k)) k) refl v h)

-- a digit is from 30 to 46 (hexadecimal)
pub digit_from : (b : ℕ) → is_digit b ≡ true → 0x30 ≤ b
digit_from b e = let not_below : ¬ (b < 0x30) = λ h. true≢false (sym e ∙ below_digits b h) in omega arith

digit_to : (b : ℕ) → is_digit b ≡ true → b < 0x47
digit_to b e = let not_above : ¬ (0x46 < b) = λ h. true≢false (sym e ∙ above_digits b h) in omega arith

-- a digit's value is below 16, and its digit is the digit
pub value_below : (b : ℕ) → is_digit b ≡ true → digit_value b < 16
value_below b e = ltb-true _ _ (at 0x47 (λ k. ltb (digit_value k) 16) value_test b (digit_to b e))
  where
    value_test : below 0x47 (λ k. ltb (digit_value k) 16) ≡ true
    value_test = unfold digit_value in refl

-- the test "not a digit, or its value's digit is the byte"
returns_to : ℕ → Bool
returns_to b = not (is_digit b) || eqb (digit (digit_value b)) b

pub digit_of_value : (b : ℕ) → is_digit b ≡ true → digit (digit_value b) ≡ b
unfolding returns_to
digit_of_value b e = eqb-true _ _ (rw e at (at 0x47 returns_to returns_test b (digit_to b e)))
  where
    returns_test : below 0x47 returns_to ≡ true
    returns_test = unfold is_digit digit digit_value in refl
