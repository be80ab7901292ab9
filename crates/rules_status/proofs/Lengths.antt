-- What the tables of all rules need, by the bytes of their patterns (`needed_is`); the bytes rule by
-- rule, as a loop sums them up. By induction on the rules.
use mathlib.Core.List.{List, [], ◌∷◌}
use mathlib.Core.Path.{◌≡◌, refl}
use Prim.Native.Nat.{ℕ, suc, ◌+◌, ◌*◌, ◌≤◌, ◌<◌}
use native.Mathlib.Omega.{arith}
use lib.ListN.{length, drop, drop_of_length-le}
use lib.Seq.{drop-cons}
use Rattle.rules.proofs.Listed.{rules_counted, rule_listed, pattern_length}
use Rattle.rules.specs.Buffers.{sum_over, needed_for, all_needed}
use Rattle.rules.specs.Rules.{Rule, TableTaken, count_of, length_at, rules_of}
use Rattle.rules_claims.specs.Claims.{rule}
use Rattle.rules_status.specs.Lengths.{bytes_of, most_bytes}

-- one entry more for each rule, and 256 times as many
more_needed : (rs : List Rule) → sum_over (λ r. (needed_for r).order) rs ≡ bytes_of rs + length rs
unfolding sum_over
more_needed [] = refl
more_needed (r ∷ rs) = omega (arith, more_needed rs)

-- 256 entries are needed for each byte of a pattern
rows_needed : (rs : List Rule) → sum_over (λ r. (needed_for r).delta1) rs ≡ 256 * bytes_of rs
unfolding sum_over
rows_needed [] = refl
rows_needed (r ∷ rs) = omega (arith, rows_needed rs)

module _ (x : List ℕ) where
  -- what is needed goes by the bytes of all patterns and the number of rules
  pub needed_is :
      (bytes count : ℕ) → bytes ≡ bytes_of (rules_of x) → count ≡ count_of x →
      record { order = bytes + count; delta2 = bytes + count; delta1 = 256 * bytes; delta3 = bytes }
      ≡ all_needed (rules_of x)
  needed_is bytes count b k = rw (b, k, ← rules_counted x, more_needed (rules_of x), rows_needed (rules_of x))

  -- the patterns before rule i have so many bytes
  pub record Summed (sum i : ℕ) : Type 0 where
    pub upto : i ≤ count_of x
    pub rest : sum + bytes_of (drop i (rules_of x)) ≡ bytes_of (rules_of x)
    pub few : sum ≤ 128 * i

  pub summed_first : Summed 0 0
  summed_first = record { upto = omega arith; rest = omega arith; few = omega arith }

  module _ (taken : TableTaken x) {sum i : ℕ} (s : Summed sum i) where
    pub summed_on : i < count_of x → Summed (sum + length_at x i) (suc i)
    unfolding sum_over
    summed_on l =
        let inside : i < length (rules_of x) = rw rules_counted l in
        let long = pattern_length x taken.size i (omega (arith, taken.few)) (taken.lengths i l) in
        let next : bytes_of (drop i (rules_of x)) ≡ length_at x i + bytes_of (drop (suc i) (rules_of x)) =
        rw (drop-cons (rules_of x) i (rule [] 0) inside, rule_listed x i (rule [] 0) l, long) in
        record { upto = l; rest = omega (arith, s.rest); few = omega (arith, s.few, taken.lengths i l) }

    -- past the last rule the sum is that of all patterns
    pub summed_all : count_of x ≤ i → sum ≡ bytes_of (rules_of x)
    unfolding sum_over
    summed_all l =
        let whole : drop i (rules_of x) ≡ [] = drop_of_length-le (rules_of x) {i = i} (rw rules_counted l) in
        omega (arith, rw whole at s.rest)

    -- which is at most 2,048
    pub summed_few : sum ≤ most_bytes
    summed_few = omega (arith, s.few, s.upto, taken.few)
