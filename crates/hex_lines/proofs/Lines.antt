-- Lines of numbers: how long they are, put together, and a number's digits from the last one on.
-- By induction on the numbers, and by arithmetic.
use mathlib.Core.List.{List, [], ◌∷◌, ◌++◌, append_assoc, append-nil}
use mathlib.Core.Path.{◌≡◌, sym}
use Prim.Native.Nat.{ℕ, suc, ◌+◌, ◌*◌, ◌/◌, ◌%◌, ◌^◌}
use native.Mathlib.Nat.{pow-suc, mod-mod, div-div-eq-div-mul, mul-zero, mul-suc, add_comm}
use lib.ListN.{length, length-append}
use Rattle.hex_digits.proofs.Numbers.{length_digits}
use Rattle.hex_digits.specs.Hex.{digit, digits}
use Rattle.hex_lines.specs.Lines.{line, lines}

pub length_line : (n v : ℕ) → length (line n v) ≡ n + 1
unfolding line
length_line n v = rw (length-append, length_digits)

pub length_lines : (n : ℕ) (vs : List ℕ) → length (lines n vs) ≡ (n + 1) * length vs
unfolding lines
length_lines n [] = sym (mul-zero (n + 1))
length_lines n (v ∷ vs) = rw (length-append, length_line, length_lines n vs, mul-suc, add_comm (n + 1) ((n + 1) * length vs))

pub lines_snoc : (n : ℕ) (vs : List ℕ) (v : ℕ) → lines n (vs ++ (v ∷ [])) ≡ lines n vs ++ line n v
unfolding lines
lines_snoc n [] v = append-nil (line n v)
lines_snoc n (u ∷ vs) v = rw (lines_snoc n vs v) (sym (append_assoc (line n u) (lines n vs) (line n v)))

-- the digit before the last n, and the places above it
pub digit_before : (n v : ℕ) → digits (suc n) v ≡ digit (v / 16 ^ n % 16 % 16) ∷ digits n v
unfolding digits
digit_before n v = rw mod-mod

pub places_above : (n v : ℕ) → v / 16 ^ n / 16 ≡ v / 16 ^ suc n
places_above n v = rw (pow-suc, div-div-eq-div-mul)
