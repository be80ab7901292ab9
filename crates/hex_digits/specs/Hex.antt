-- Capital hexadecimal (document 01, "The job file"): digits, and numbers written in digits and read from them. These are definitions.
use Rattle.std.specs.Prelude.{Bool, true, ◌&&◌, ◌||◌, cond, List, [], ◌∷◌, ℕ, zero, suc, ◌+◌, ◌*◌, ◌-◌, ◌/◌, ◌%◌, ◌^◌, ltb, leb, get_or}

-- only the digits 0 to 9 (30 to 39, hexadecimal) and the capitals A to F (41 to 46) count as digits
unfoldable pub is_digit : (byte : ℕ) → Bool
is_digit b = (leb 0x30 b && leb b 0x39) || (leb 0x41 b && leb b 0x46)

-- the value of a digit
unfoldable pub digit_value : (byte : ℕ) → ℕ
digit_value b = cond (leb b 0x39) (b - 0x30) (b - 0x37)

-- the digit of a value below 16
unfoldable pub digit : (value : ℕ) → ℕ
digit v = cond (ltb v 10) (0x30 + v) (0x37 + v)

-- a number written in so many digits
unfoldable pub digits : (count : ℕ) → (number : ℕ) → List ℕ
digits zero v = []
digits (suc n) v = digit (v / 16 ^ n % 16) ∷ digits n v

-- whether so many bytes of a file, from a place on, are all digits
unfoldable pub all_digits : (count : ℕ) → (at : ℕ) → (file : List ℕ) → Bool
all_digits zero a bs = true
all_digits (suc n) a bs = is_digit (get_or bs a 0) && all_digits n (suc a) bs

-- the number that so many digits of a file, from a place on, make
unfoldable pub number : (count : ℕ) → (at : ℕ) → (file : List ℕ) → ℕ
number zero a bs = 0
number (suc n) a bs = digit_value (get_or bs a 0) * 16 ^ n + number n (suc a) bs
