-- A table of the two digits of each byte, by which the digits of a number are written two at a time. These are definitions.
use Rattle.std.specs.Prelude.{List, ◌≡◌, ℕ, ◌+◌, ◌*◌, ◌/◌, ◌%◌, ◌<◌, get_or}
use Rattle.hex_digits.specs.Hex.{digit}

-- the two digits of a byte b stand at 2 b and 2 b + 1 of a table
pub record DigitPair (table : List ℕ) (b : ℕ) : Type 0 where
  pub high : get_or table (2 * b) 0 ≡ digit (b / 16)
  pub low : get_or table (2 * b + 1) 0 ≡ digit (b % 16)

-- a table of the digits of all 256 bytes
pub record DigitPairs (table : List ℕ) : Type 0 where
  pub pair : (b : ℕ) → b < 256 → DigitPair table b
