-- Lists of bytes by index: each entry of such a list is below 256, also the 0 past its end, and a list of such entries is one; so is any part of one.
-- By induction on the list.
use mathlib.Core.List.{List, [], ◌∷◌}
use Prim.Native.Nat.{ℕ, zero, suc, ◌<◌}
use native.Mathlib.Omega.{arith}
use lib.ListN.{length, get_or, take, drop}
use lib.Seq.{take-nil, drop-nil}
use Rattle.answers.specs.Bytes.{Bytes}

pub bytes_entry : (t : List ℕ) → Bytes t → (i : ℕ) → get_or t i 0 < 256
unfolding Bytes
bytes_entry [] h i = omega arith
bytes_entry (b ∷ t) h zero = h.0
bytes_entry (b ∷ t) h (suc i) = bytes_entry t h.1 i

pub each_byte : (t : List ℕ) → ((i : ℕ) → i < length t → get_or t i 0 < 256) → Bytes t
unfolding Bytes
each_byte [] h = tt
each_byte (b ∷ t) h = (h 0 (omega arith), each_byte t (λ i l. h (suc i) (omega arith)))

-- the k entries from f on
pub bytes_part : (t : List ℕ) → Bytes t → (f k : ℕ) → Bytes (take k (drop f t))
unfolding Bytes
bytes_part [] h f k = rw (drop-nil f, take-nil k) tt
bytes_part (b ∷ t) h zero zero = tt
bytes_part (b ∷ t) h zero (suc k) = (h.0, bytes_part t h.1 zero k)
bytes_part (b ∷ t) h (suc f) k = bytes_part t h.1 f k
