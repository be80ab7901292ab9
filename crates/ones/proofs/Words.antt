-- The ones of a word are the sum of its bytes' (`WordCounted`), since the lowest byte is counted apart from the others; by induction on the bytes.
-- A word is the sum of its bytes, each by its worth, and is put together from the lowest byte up (`word_joined`); the ones of a text's words are those of its bytes. Assumes nothing.
use mathlib.Core.List.{List, [], ◌∷◌}
use mathlib.Core.Path.{◌≡◌, refl, sym, ◌∙◌, ap}
use Prim.Native.Nat.{ℕ, zero, suc, ◌+◌, ◌*◌, ◌%◌, ◌^◌, ◌<◌}
use native.Mathlib.Nat.{mul_left_comm, mod-eq_of_lt}
use native.Mathlib.Omega.{arith}
use lib.Bits.{bit_or, or_shifted_r}
use lib.Count.{ones, ones_in, ones_cat}
use lib.ListN.{get_or, take, drop}
use lib.Pow.{pow-add, pow_mono, pow_pos}
use lib.Seq.{drop-drop}
use Rattle.std.proofs.lemmas.List.Sums.{sum_by-cons}
use Rattle.std.specs.Int.{byte_worth, sum_through}
use Rattle.std.specs.List.{sum_by}
use Rattle.std.specs.Simd.{first_chunks}
use Rattle.answers.proofs.Bytes.{bytes_part}
use Rattle.answers.specs.Bytes.{Bytes}
use Rattle.ones.proofs.Sums.{ones_part}
use Rattle.ones.specs.Ones.{ones_of}
use Rattle.ones.specs.Promises.{WordCounted}
use Rattle.ones.specs.Words.{word_of}

pub word_counted : WordCounted
unfolding WordCounted word_of ones_of Bytes
word_counted [] h = unfold ones ones_in in refl
word_counted (b ∷ bs) h =
    let apart : ones (word_of bs * 256 + b) ≡ ones (word_of bs) + ones b = ones_cat 8 (word_of bs) b h.0 in
    let order : b + 256 * word_of bs ≡ word_of bs * 256 + b = omega arith in
    ap ones order ∙ apart ∙ omega (arith, word_counted bs h.1)

-- a byte is worth 256 times the one before it
worth_more : (k : ℕ) → 256 ^ suc k ≡ 256 * 256 ^ k
worth_more k = ap (λ x. 256 ^ x) (omega arith) ∙ pow-add 256 1 k

-- one byte more stands above those before it
word_next : (t : List ℕ) (k : ℕ) → word_of (take (suc k) t) ≡ word_of (take k t) + get_or t k 0 * 256 ^ k
unfolding word_of
word_next [] zero = omega arith
word_next [] (suc k) = omega arith
word_next (b ∷ t) zero = omega arith
word_next (b ∷ t) (suc k) =
    omega (arith, word_next t k, ap (λ x. get_or t k 0 * x) (worth_more k), mul_left_comm (get_or t k 0) 256 (256 ^ k))

-- its worth in bits: eight more for each byte
worth_bits : (k : ℕ) → 256 ^ k ≡ 2 ^ (8 * k)
worth_bits zero = refl
worth_bits (suc k) =
    let more : 2 ^ (8 * suc k) ≡ 256 * 2 ^ (8 * k) = ap (λ x. 2 ^ x) (omega arith) ∙ pow-add 2 8 (8 * k) in
    omega (arith, worth_more k, worth_bits k, more)

-- the word of the first k bytes has no bit past theirs
word_few : (t : List ℕ) → Bytes t → (k : ℕ) → word_of (take k t) < 2 ^ (8 * k)
unfolding word_of Bytes
word_few t h zero = omega arith
word_few [] h (suc k) = pow_pos (8 * suc k)
word_few (b ∷ t) h (suc k) = omega (arith, h.0, word_few t h.1 k, worth_more k, worth_bits k, worth_bits (suc k))

-- one byte more, shifted past them
word_above : (t : List ℕ) (k : ℕ) → word_of (take (suc k) t) ≡ get_or t k 0 * 2 ^ (8 * k) + word_of (take k t)
word_above t k = omega (arith, word_next t k, ap (λ x. get_or t k 0 * x) (worth_bits k))

-- shifted past them it stays within 64 bits
byte_fits : (t : List ℕ) → Bytes t → (k : ℕ) → k < 8 → get_or t k 0 * 2 ^ (8 * k) < 2 ^ 64
byte_fits t h k l = omega (arith, word_few t h (suc k), word_above t k, pow_mono {i = 8 * suc k} {j = 64} (omega arith))

-- a word put together byte by byte: one law for every byte of it
pub word_joined :
    (t : List ℕ) → Bytes t → (k : ℕ) → k < 8 → bit_or (word_of (take k t)) (get_or t k 0 * 2 ^ (8 * k) % 2 ^ 64) ≡ word_of (take (suc k) t)
word_joined t h k l =
    let low = word_of (take k t) in
    ap (bit_or low) (mod-eq_of_lt (byte_fits t h k l)) ∙ or_shifted_r (get_or t k 0) (8 * k) low (word_few t h k) ∙ sym (word_above t k)

-- the first bytes, each by its worth
pub word_summed : (t : List ℕ) (k : ℕ) → sum_through (λ i. byte_worth i (get_or t i 0)) k ≡ word_of (take (suc k) t)
unfolding word_of
word_summed t zero = let first : get_or t 0 0 ≡ word_of (take 1 t) = omega (arith, word_next t 0) in first
word_summed t (suc k) =
    let more : sum_through (λ i. byte_worth i (get_or t i 0)) k + get_or t (suc k) 0 * 256 ^ suc k ≡ word_of (take (suc (suc k)) t) = omega (arith, word_next t (suc k), word_summed t k) in
    more

bytes_past : (t : List ℕ) (k : ℕ) → Bytes t → Bytes (drop k t)
unfolding Bytes
bytes_past [] zero h = tt
bytes_past [] (suc k) h = tt
bytes_past (b ∷ t) zero h = h
bytes_past (b ∷ t) (suc k) h = bytes_past t k h.1

-- the ones of the first k words and those of the bytes past them
pub words_counted :
    (k : ℕ) (t : List ℕ) → Bytes t →
    sum_by (λ bytes. ones (word_of bytes)) (first_chunks 8 k t) + ones_of (drop (k * 8) t) ≡ ones_of t
unfolding WordCounted
words_counted zero t h = omega arith
words_counted (suc k) t h =
    let rest : drop (k * 8) (drop 8 t) ≡ drop (suc k * 8) t = drop-drop (k * 8) 8 t ∙ ap (λ i. drop i t) (omega arith) in
    omega (
      arith,
      ones_part t 0 8,
      word_counted (take 8 t) (bytes_part t h 0 8),
      words_counted k (drop 8 t) (bytes_past t 8 h),
      sum_by-cons (λ bytes. ones (word_of bytes)) (take 8 t) (first_chunks 8 k (drop 8 t)),
      ap ones_of rest,
    )
