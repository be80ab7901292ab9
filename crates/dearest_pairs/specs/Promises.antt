-- What is promised of the pairs of a size and of the dearest of them (document 02, "The dearest
-- job"): each is a type, and its proof is in proofs/. These are definitions.
use Rattle.std.specs.Prelude.{List, [], ◌∷◌, ◌++◌, ◌↔◌, ◌≡◌, ℕ, ◌+◌, ◌*◌, ◌^◌, ◌≤◌, ◌<◌, length, get_or}
use Rattle.convert.specs.Paired.{Call, CallTaken, AnySearch}
use Rattle.dearest_pairs.specs.Dearest.{cost, greatest, dearest}
use Rattle.dearest_pairs.specs.Pairs.{Pair, pair, number, binary, pairs}

-- each byte is 00 or 01
unfoldable pub Binary : List ℕ → Type 0
Binary [] = Unit {0}
Binary (b ∷ bs) = (b < 2) × Binary bs

-- so many bytes of 00 and 01
pub record BinaryOf (count : ℕ) (bs : List ℕ) : Type 0 where
  pub size : length bs ≡ count
  pub bits : Binary bs

-- a pair of m and n bytes of 00 and 01
pub record OfSize (m n : ℕ) (x : Pair) : Type 0 where
  pub pattern : BinaryOf m x.pattern
  pub text : BinaryOf n x.text

-- written and read as a binary number: a number below 2 to the power k in k bytes is read as that
-- number, and bytes of 00 and 01 are those of the number that they are read as, which is below 2 to
-- the power of how many they are
pub record NumbersRight : Type 0 where
  pub written : (k v : ℕ) → BinaryOf k (binary k v)
  pub written_read : (k v : ℕ) → v < 2 ^ k → number (binary k v) ≡ v
  pub read_below : (bs : List ℕ) → Binary bs → number bs < 2 ^ length bs
  pub read_written : (bs : List ℕ) → Binary bs → binary (length bs) (number bs) ≡ bs

-- every pair comes once: there are 2 to the power m + n; each is of that size; and each pair of
-- that size stands at one place and at no other, after those of a lower pattern, and those of its
-- pattern with a lower text
pub record EachOnce (m n : ℕ) : Type 0 where
  pub count : length (pairs m n) ≡ 2 ^ (m + n)
  pub of_size : (i : ℕ) → i < 2 ^ (m + n) → OfSize m n (get_or (pairs m n) i (pair [] []))
  pub once :
      (x : Pair) (i : ℕ) → OfSize m n x → i < 2 ^ (m + n) →
      (get_or (pairs m n) i (pair [] []) ≡ x) ↔ (i ≡ number x.pattern * 2 ^ n + number x.text)

unfoldable pub EveryPair : Type 0
EveryPair = (m n : ℕ) → EachOnce m n

-- each of some pairs has a C below this
unfoldable pub AllBelow : (C : ℕ) → List Pair → Type 0
AllBelow C [] = Unit {0}
AllBelow C (x ∷ xs) = (cost x < C) × AllBelow C xs

-- no pair of m and n bytes of 00 and 01 has a greater C than the dearest; the dearest has it, and
-- is of that size; and every pair before it has less
pub record DearestOfSize (m n : ℕ) : Type 0 where
  pub none_greater : (x : Pair) → OfSize m n x → cost x ≤ greatest (pairs m n)
  pub of_size : OfSize m n (dearest (pairs m n))
  pub has_it : cost (dearest (pairs m n)) ≡ greatest (pairs m n)
  pub before : List Pair
  pub after : List Pair
  pub split : pairs m n ≡ before ++ (dearest (pairs m n) ∷ after)
  pub first : AllBelow (greatest (pairs m n)) before

unfoldable pub DearestRight : Type 0
DearestRight = (m n : ℕ) → DearestOfSize m n

-- C of a pair is what every search of its text for its pattern answers, of those that are taken
unfoldable pub CostAnswered : Type 0
CostAnswered = (q : ℕ) (x : Pair) (c : Call) → AnySearch q x.pattern x.text c → CallTaken c → c.answer.comparisons ≡ cost x
