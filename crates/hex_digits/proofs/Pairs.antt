-- Two digits at a place of a file: when they are digits, and the number they give. The two digits of a byte in a table of digit pairs.
-- By unfolding `all_digits`, `number` and `digits` twice.
use mathlib.Core.Bool.{true, ◌&&◌, and-true}
use mathlib.Core.List.{List, [], ◌∷◌}
use mathlib.Core.Path.{◌≡◌}
use Prim.Native.Nat.{ℕ, ◌+◌, ◌*◌, ◌/◌, ◌%◌, ◌<◌}
use native.Mathlib.Numerals.{add-one}
use native.Mathlib.Omega.{arith}
use lib.ListN.{get_or}
use Rattle.hex_digits.proofs.Table.{and_left, and_right}
use Rattle.hex_digits.specs.Hex.{is_digit, digit_value, digits, all_digits, number}
use Rattle.hex_digits.specs.Pairs.{DigitPairs}

pub both_digits : (a : ℕ) (bs : List ℕ) → all_digits 2 a bs ≡ is_digit (get_or bs a 0) && is_digit (get_or bs (a + 1) 0)
unfolding all_digits
both_digits a bs = simp (add-one, and-true)

pub pair_number : (a : ℕ) (bs : List ℕ) → number 2 a bs ≡ digit_value (get_or bs a 0) * 16 + digit_value (get_or bs (a + 1) 0)
unfolding number
pair_number a bs = rw add-one (omega arith)

module _ (a : ℕ) (bs : List ℕ) (good : all_digits 2 a bs ≡ true) where
  pub high_digit : is_digit (get_or bs a 0) ≡ true
  high_digit = and_left (is_digit (get_or bs a 0)) (is_digit (get_or bs (a + 1) 0)) (rw both_digits at good)

  pub low_digit : is_digit (get_or bs (a + 1) 0) ≡ true
  low_digit = and_right (is_digit (get_or bs a 0)) (is_digit (get_or bs (a + 1) 0)) (rw both_digits at good)

-- the digits of a byte, as a table has them
pub pair_digits :
    {table : List ℕ} → DigitPairs table → (b : ℕ) → b < 256 → digits 2 b ≡ get_or table (2 * b) 0 ∷ get_or table (2 * b + 1) 0 ∷ []
unfolding digits
pair_digits pairs b small =
    let pair = pairs.pair b small in
    let high : b / 16 % 16 ≡ b / 16 = omega arith in
    let low : b / 1 % 16 ≡ b % 16 = omega arith in
    rw (pair.high, pair.low, high, low)
