-- Bytes mirrored, and the table of them (document 02, "Mirrored edges"). These are definitions.
use Rattle.std.specs.Prelude.{List, ◌≡◌, ℕ, zero, suc, ◌+◌, ◌*◌, ◌/◌, ◌%◌, ◌^◌, ◌<◌, get_or}

-- bit i (hole i) of a byte (card), counted from 0
abbrev pub bit : (c i : ℕ) → ℕ
bit c i = c / 2 ^ i % 2

-- so many bits of c from bit i on, in reverse order: bit i is the highest
unfoldable pub reversed_bits : (count i c : ℕ) → ℕ
reversed_bits zero i c = 0
reversed_bits (suc n) i c = bit c i * 2 ^ n + reversed_bits n (suc i) c

-- a byte (card) is mirrored by reversing the order of its eight bits (holes)
unfoldable pub mirrored : (c : ℕ) → ℕ
mirrored c = reversed_bits 8 0 c

-- the rule of a table of 256 mirrored bytes (cards): entry c is byte c mirrored, and the entry at entry c is c
pub record MirrorTable (table : List ℕ) : Type 0 where
  pub entry : (c : ℕ) → c < 256 → get_or table c 0 ≡ mirrored c
  pub twice : (c : ℕ) → c < 256 → get_or table (get_or table c 0) 0 ≡ c
