-- A number written in bytes 00 and 01 and read again, and such bytes read and written again.
-- By induction on how many there are: places of the number above them do not show in them.
use mathlib.Core.List.{List, [], ◌∷◌}
use mathlib.Core.Path.{◌≡◌, refl, sym, ap, ◌∙◌}
use Prim.Native.Nat.{ℕ, zero, suc, ◌+◌, ◌*◌, ◌/◌, ◌%◌, ◌^◌, ◌<◌}
use native.Mathlib.Nat.{mod-lt, mod-one, mod-eq_of_lt, pow-succ', mul_assoc, mul-add-div_right, mul-add-mod_self_right}
use native.Mathlib.Omega.{arith}
use lib.Arith.{digits_lt, digits_div, mod-mul}
use lib.ListN.{length}
use lib.Pow.{pow_pos}
use Rattle.dearest_pairs.specs.Pairs.{number, binary}
use Rattle.dearest_pairs.specs.Promises.{Binary, NumbersRight}

pub length_binary : (k v : ℕ) → length (binary k v) ≡ k
unfolding binary
length_binary zero v = refl
length_binary (suc k) v = ap suc (length_binary k v)

bits : (k v : ℕ) → Binary (binary k v)
unfolding binary Binary
bits zero v = tt
bits (suc k) v = (mod-lt _ (omega arith), bits k v)

-- read again are the last k places
read_low : (k v : ℕ) → number (binary k v) ≡ v % 2 ^ k
unfolding binary number
read_low zero v = sym (mod-one v)
read_low (suc k) v = rw (length_binary k v, read_low k v, pow-succ' 2 k) (sym (mod-mul v (omega arith) (pow_pos k)))

pub written_read : (k v : ℕ) → v < 2 ^ k → number (binary k v) ≡ v
written_read k v h = read_low k v ∙ mod-eq_of_lt h

pub read_below : (bs : List ℕ) → Binary bs → number bs < 2 ^ length bs
unfolding number Binary
read_below [] h = omega arith
read_below (b ∷ bs) (bit, later) = rw (pow-succ' 2 (length bs)) (digits_lt bit (read_below bs later))

-- places above the k-th do not show in k bytes
binary_higher : (k x v : ℕ) → binary k (x * 2 ^ k + v) ≡ binary k v
unfolding binary
binary_higher zero x v = refl
binary_higher (suc k) x v =
    rw (
      pow-succ' 2 k,
      ← mul_assoc x 2 (2 ^ k),
      mul-add-div_right (pow_pos k) (x * 2) v,
      mul-add-mod_self_right x 2 (v / 2 ^ k),
      binary_higher k (x * 2) v,
    )

pub read_written : (bs : List ℕ) → Binary bs → binary (length bs) (number bs) ≡ bs
unfolding number Binary binary
read_written [] h = refl
read_written (b ∷ bs) (bit, later) =
    rw (digits_div b (read_below bs later), mod-eq_of_lt bit, binary_higher (length bs) b (number bs), read_written bs later)

pub numbers_right : NumbersRight
numbers_right =
    record {
      written = λ k v. record { size = length_binary k v; bits = bits k v };
      written_read = written_read;
      read_below = read_below;
      read_written = read_written;
    }
