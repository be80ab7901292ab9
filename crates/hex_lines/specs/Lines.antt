-- Numbers in capital hexadecimal, a line each: the lines of job files and of what SEEK prints. These are definitions.
use Rattle.std.specs.Prelude.{List, [], ◌∷◌, ◌++◌, ℕ}
use Rattle.hex_digits.specs.Hex.{digits}

-- each line is ended by byte 0A (hexadecimal)
abbrev pub line_end : ℕ
line_end = 0x0A

-- a number in so many digits, on a line of its own
unfoldable pub line : (count number : ℕ) → List ℕ
line n v = digits n v ++ (line_end ∷ [])

-- each number of a list in so many digits, a line each
unfoldable pub lines : (count : ℕ) → (numbers : List ℕ) → List ℕ
lines n [] = []
lines n (v ∷ vs) = line n v ++ lines n vs
