-- Every pair of a size comes once, in its order. The pair with pattern a and text b stands at place
-- a * 2 ^ n + b: by induction on how many patterns are left, each with as many texts; a place has
-- one such a and b, and they are read off the pair.
use mathlib.Core.List.{List, []}
use mathlib.Core.Path.{◌≡◌, refl, sym, ap, ◌∙◌}
use Prim.Native.Nat.{ℕ, zero, suc, ◌+◌, ◌*◌, ◌/◌, ◌%◌, ◌^◌, ◌<◌}
use native.Mathlib.Nat.{mod-lt, suc-mul, add_comm}
use native.Mathlib.Omega.{arith}
use lib.Arith.{digits_lt}
use lib.ListN.{length, get_or, length-append, get_or-append}
use lib.Pow.{pow_pos, pow-add, shr_lt, split}
use lib.Seq.{get_or-append-add}
use Rattle.dearest_pairs.proofs.Numbers.{written_read, read_below, read_written, numbers_right}
use Rattle.dearest_pairs.specs.Pairs.{Pair, pair, number, binary, texts_from, patterns_from, pairs}
use Rattle.dearest_pairs.specs.Promises.{BinaryOf, OfSize, EveryPair}

length_texts : (k r : ℕ) (w : List ℕ) (n : ℕ) → length (texts_from k r w n) ≡ k
unfolding texts_from
length_texts zero r w n = refl
length_texts (suc k) r w n = ap suc (length_texts k (suc r) w n)

text_at : (k r : ℕ) (w : List ℕ) (n b : ℕ) (d : Pair) → b < k → get_or (texts_from k r w n) b d ≡ pair w (binary n (r + b))
unfolding texts_from
text_at zero r w n b d h = absurd (omega arith)
text_at (suc k) r w n zero d h = let e : r + 0 ≡ r = omega arith in rw e
text_at (suc k) r w n (suc b) d h = let e : suc r + b ≡ r + suc b = omega arith in rw (← e) (text_at k (suc r) w n b d (omega arith))

length_patterns : (k v m n : ℕ) → length (patterns_from k v m n) ≡ k * 2 ^ n
unfolding patterns_from
length_patterns zero v m n = omega arith
length_patterns (suc k) v m n =
    rw (length-append, length_texts (2 ^ n) 0 (binary m v) n, length_patterns k (suc v) m n, suc-mul k (2 ^ n), add_comm (2 ^ n) (k * 2 ^ n))

pub length_pairs : (m n : ℕ) → length (pairs m n) ≡ 2 ^ (m + n)
unfolding pairs
length_pairs m n = length_patterns (2 ^ m) 0 m n ∙ sym (pow-add 2 m n)

pair_from :
    (k v m n a b : ℕ) (d : Pair) → a < k → b < 2 ^ n →
    get_or (patterns_from k v m n) (a * 2 ^ n + b) d ≡ pair (binary m (v + a)) (binary n b)
unfolding patterns_from
pair_from zero v m n a b d h l = absurd (omega arith)
pair_from (suc k) v m n zero b d h l =
    let block = texts_from (2 ^ n) 0 (binary m v) n in
    let inside : 0 * 2 ^ n + b ≡ b = omega arith in
    let first : v + 0 ≡ v = omega arith in
    let same : 0 + b ≡ b = omega arith in
    rw (inside, first, get_or-append block (patterns_from k (suc v) m n) d b (rw (length_texts (2 ^ n) 0 (binary m v) n) l))
    (rw same at (text_at (2 ^ n) 0 (binary m v) n b d l))
pair_from (suc k) v m n (suc a) b d h l =
    let block = texts_from (2 ^ n) 0 (binary m v) n in
    let past : suc a * 2 ^ n + b ≡ length block + (a * 2 ^ n + b) = rw (length_texts (2 ^ n) 0 (binary m v) n, suc-mul a (2 ^ n)) (omega arith) in
    let next : v + suc a ≡ suc v + a = omega arith in
    rw (past, next, get_or-append-add block (patterns_from k (suc v) m n) (a * 2 ^ n + b) d) (pair_from k (suc v) m n a b d (omega arith) l)

-- the pair of pattern a and text b, by its place
pair_at :
    (m n a b : ℕ) (d : Pair) → a < 2 ^ m → b < 2 ^ n → get_or (pairs m n) (a * 2 ^ n + b) d ≡ pair (binary m a) (binary n b)
unfolding pairs
pair_at m n a b d h l = let e : 0 + a ≡ a = omega arith in rw e at (pair_from (2 ^ m) 0 m n a b d h l)

-- the pair at a place
at_place :
    (m n i : ℕ) (d : Pair) → i < 2 ^ (m + n) → get_or (pairs m n) i d ≡ pair (binary m (i / 2 ^ n)) (binary n (i % 2 ^ n))
at_place m n i d h = rw (split i n) at (pair_at m n (i / 2 ^ n) (i % 2 ^ n) d (shr_lt m n h) (mod-lt i (pow_pos n)))

of_binary : (m n a b : ℕ) → OfSize m n (pair (binary m a) (binary n b))
of_binary m n a b = record { pattern = numbers_right.written m a; text = numbers_right.written n b }

-- bytes of 00 and 01 are read as a number below 2 to the power of their number, and are those of
-- that number
below : {k : ℕ} {bs : List ℕ} → BinaryOf k bs → number bs < 2 ^ k
below {k} {bs} h = rw h.size at (read_below bs h.bits)

again : {k : ℕ} {bs : List ℕ} → BinaryOf k bs → binary k (number bs) ≡ bs
again {k} {bs} h = rw h.size at (read_written bs h.bits)

module _ {m n : ℕ} {x : Pair} (h : OfSize m n x) where
  -- where a pair of that size stands
  abbrev pub place : ℕ
  place = number x.pattern * 2 ^ n + number x.text

  pub inside : place < length (pairs m n)
  inside = rw (length_pairs m n, pow-add 2 m n) (digits_lt (below h.pattern) (below h.text))

  pub stands : (d : Pair) → get_or (pairs m n) place d ≡ x
  stands d =
      rw (again h.pattern, again h.text) at (pair_at m n (number x.pattern) (number x.text) d (below h.pattern) (below h.text))

-- which place that is can be read off the pair
read_place : (m n i : ℕ) (d x : Pair) → i < 2 ^ (m + n) → get_or (pairs m n) i d ≡ x → i ≡ number x.pattern * 2 ^ n + number x.text
read_place m n i d x h e =
    let is : x ≡ pair (binary m (i / 2 ^ n)) (binary n (i % 2 ^ n)) = sym e ∙ at_place m n i d h in
    rw (is, written_read m (i / 2 ^ n) (shr_lt m n h), written_read n (i % 2 ^ n) (mod-lt i (pow_pos n))) (sym (split i n))

pub every_pair : EveryPair
unfolding EveryPair
every_pair m n =
    record {
      count = length_pairs m n;
      of_size = λ i h. rw (at_place m n i (pair [] []) h) (of_binary m n (i / 2 ^ n) (i % 2 ^ n));
      once = λ x i s h. (read_place m n i (pair [] []) x h, λ e. rw e (stands s (pair [] [])));
    }
