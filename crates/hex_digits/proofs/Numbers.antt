-- A number written in digits and read again, and digits read and written again; which places of a number its digits show.
-- By induction on how many digits; what is read, in a file whose bytes from a place on are known: `drop at file ≡ digits ++ rest`.
use mathlib.Core.Bool.{Bool, true, false}
use mathlib.Core.List.{List, [], ◌∷◌, ◌++◌}
use mathlib.Core.Path.{◌≡◌, refl, sym, ap, ◌∙◌}
use Prim.Native.Nat.{ℕ, zero, suc, ◌+◌, ◌*◌, ◌/◌, ◌%◌, ◌^◌, ◌<◌}
use native.Mathlib.Nat.{add-zero, zero-add, add-suc, suc-add, add_comm, mod-lt, mod-one, mod-eq_of_lt, one-le-pow, pow-succ'}
use native.Mathlib.Nat.{mul_assoc, mul-add-div_right, mul-add-mod_self_right, div-add-mod', div-div-eq-div-mul}
use native.Mathlib.Numerals.{add-one}
use native.Mathlib.Omega.{arith}
use borrow.Author.Tests.{ltb-true, ltb-false}
use lib.Arith.{digits_lt, digits_div, mod-mul}
use lib.Dec.{ltb}
use lib.ListN.{length, drop, get_or, get_or-eq_default}
use lib.Pow.{pow-add}
use lib.Seq.{get_or-drop, drop-drop, drop-cons, drop_at}
use Rattle.hex_digits.proofs.Digits.{digit_from, digit_is_digit, value_of_digit, value_below, digit_of_value}
use Rattle.hex_digits.proofs.Table.{and_left, and_right}
use Rattle.hex_digits.specs.Hex.{is_digit, digit_value, digit, digits, all_digits, number}

-- if a file's bytes are known from a place on: what stands past some of them, and which byte stands at the place
pub bytes_past : (a n : ℕ) (bs xs rest : List ℕ) → drop a bs ≡ xs ++ rest → length xs ≡ n → drop (a + n) bs ≡ rest
bytes_past a n bs xs rest e k = sym (drop-drop n a bs) ∙ rw e (drop_at xs rest n k)

pub byte_there : (a b : ℕ) (bs rest : List ℕ) → drop a bs ≡ b ∷ rest → get_or bs a 0 ≡ b
byte_there a b bs rest e = rw (← add-zero a, ← get_or-drop a bs 0 0, e)

next_past : (a b : ℕ) (bs rest : List ℕ) → drop a bs ≡ b ∷ rest → drop (suc a) bs ≡ rest
next_past a b bs rest e = rw (← add-one a) (bytes_past a 1 bs (b ∷ []) rest e refl)

-- a byte other than 0 that is read at a place stands there
pub byte_stands : (a b : ℕ) (bs : List ℕ) → get_or bs a 0 ≡ b → 0 < b → drop a bs ≡ b ∷ drop (suc a) bs
byte_stands a b bs e h = go (ltb a (length bs)) refl
  where
    go : (z : Bool) → ltb a (length bs) ≡ z → drop a bs ≡ b ∷ drop (suc a) bs
    go true q = rw (← e) (drop-cons bs a 0 (ltb-true _ _ q))
    go false q = absurd (omega (arith, get_or-eq_default bs 0 (ltb-false _ _ q)))

power_positive : (n : ℕ) → 0 < 16 ^ n
power_positive n = one-le-pow n 16 (omega arith)

pub length_digits : (n v : ℕ) → length (digits n v) ≡ n
unfolding digits
length_digits zero v = refl
length_digits (suc n) v = ap suc (length_digits n v)

-- what is written in n digits at a place is read there: n digits, and the number's last n hexadecimal places
pub all_digits_written : (n v a : ℕ) (bs rest : List ℕ) → drop a bs ≡ digits n v ++ rest → all_digits n a bs ≡ true
unfolding digits all_digits
all_digits_written zero v a bs rest e = refl
all_digits_written (suc n) v a bs rest e =
    let d = v / 16 ^ n % 16 in
    let tail = digits n v ++ rest in
    rw (
      byte_there a (digit d) bs tail e,
      digit_is_digit d (mod-lt _ (omega arith)),
      all_digits_written n v (suc a) bs rest (next_past a (digit d) bs tail e),
    )

pub number_written : (n v a : ℕ) (bs rest : List ℕ) → drop a bs ≡ digits n v ++ rest → number n a bs ≡ v % 16 ^ n
unfolding digits number
number_written zero v a bs rest e = sym (mod-one v)
number_written (suc n) v a bs rest e =
    let d = v / 16 ^ n % 16 in
    let tail = digits n v ++ rest in
    rw (
      byte_there a (digit d) bs tail e,
      value_of_digit d (mod-lt _ (omega arith)),
      number_written n v (suc a) bs rest (next_past a (digit d) bs tail e),
      pow-succ' 16 n,
    )
    (sym (mod-mul v (omega arith) (power_positive n)))

-- places above the n-th do not show in n digits
digits_higher : (n x v : ℕ) → digits n (x * 16 ^ n + v) ≡ digits n v
unfolding digits
digits_higher zero x v = refl
digits_higher (suc n) x v =
    rw (
      pow-succ' 16 n,
      ← mul_assoc x 16 (16 ^ n),
      mul-add-div_right (power_positive n) (x * 16) v,
      mul-add-mod_self_right x 16 (v / 16 ^ n),
      digits_higher n (x * 16) v,
    )

pub digits_low : (n v : ℕ) → digits n (v % 16 ^ n) ≡ digits n v
digits_low n v = sym (digits_higher n (v / 16 ^ n) (v % 16 ^ n)) ∙ ap (digits n) (div-add-mod' v (16 ^ n))

-- the first m of m + n digits are those of the places above the last n
pub digits_append : (m n v : ℕ) → digits (m + n) v ≡ digits m (v / 16 ^ n) ++ digits n v
unfolding digits
digits_append zero n v = rw zero-add
digits_append (suc m) n v = rw (suc-add, digits_append m n v, div-div-eq-div-mul v (16 ^ n), ← pow-add, add_comm n m)

-- digits read make a number of so many places
pub number_below : (n a : ℕ) (bs : List ℕ) → all_digits n a bs ≡ true → number n a bs < 16 ^ n
unfolding all_digits number
number_below zero a bs e = omega arith
number_below (suc n) a bs e =
    rw (pow-succ' 16 n)
    (digits_lt (value_below _ (and_left _ _ e)) (number_below n (suc a) bs (and_right (is_digit (get_or bs a 0)) _ e)))

-- digits read and written again
pub digits_read : (n a : ℕ) (bs : List ℕ) → all_digits n a bs ≡ true → drop a bs ≡ digits n (number n a bs) ++ drop (a + n) bs
unfolding digits all_digits number
digits_read zero a bs e = ap (λ (k : ℕ). drop k bs) (sym (add-zero a))
digits_read (suc n) a bs e =
    let b = get_or bs a 0 in
    let first = and_left (is_digit b) (all_digits n (suc a) bs) e in
    let later = and_right (is_digit b) (all_digits n (suc a) bs) e in
    let low = number n (suc a) bs in
    byte_stands a b bs refl (omega (arith, digit_from b first))
    ∙ rw (
      digits_higher n (digit_value b) low,
      digits_div (digit_value b) (number_below n (suc a) bs later),
      mod-eq_of_lt (value_below b first),
      digit_of_value b first,
      digits_read n (suc a) bs later,
      add-suc a n,
      suc-add a n,
    )
