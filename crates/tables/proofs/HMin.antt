-- The laws of h_min: its value, that the value is unique, and that it is k - 1 just where the pattern has period k.
-- Position m - 1 passes h_min's test, so the least that passes does; the position before it fails, and only at h itself can it fail.
use mathlib.Core.Bool.{Bool}
use mathlib.Core.List.{List}
use mathlib.Core.Logic.{⊎_elim}
use mathlib.Core.Path.{◌≡◌}
use Prim.Native.Nat.{ℕ, suc, ◌+◌, ◌-◌, ◌≤◌, ◌<◌}
use native.Mathlib.Nat.{eq-or-lt_of_le}
use native.Mathlib.Omega.{arith}
use lib.IntN.{pos}
use lib.ListN.{length}
use Rattle.tables.proofs.Least.{least_facts, least_found, all_each, each_all, some_fails, outside_iff, outside_fails}
use Rattle.tables.specs.Facts.{OutNeg, HasPeriod, HMin}
use Rattle.tables.specs.Least.{all_from}
use Rattle.tables.specs.Sets.{byte, outside, Neg}
use Rattle.tables.specs.Tables.{h_min}

-- k is outside Neg(w(j), j)
abbrev agrees : (w : List ℕ) (k j : ℕ) → Bool
agrees w k j = outside (Neg w (byte w j) (pos j)) k

-- k is outside Neg(w(j), j) for all j above h
abbrev agrees_above : (w : List ℕ) (k h : ℕ) → Bool
agrees_above w k h = all_from (length w - suc h) (suc h) (agrees w k)

pub h_min_facts : (w : List ℕ) (k : ℕ) → 1 ≤ k → k ≤ length w → HMin w k (h_min w k)
unfolding h_min
h_min_facts w k l u =
    let h = h_min w k in
    let m = length w in
    let value = least_facts m (k - 1) (agrees_above w k) in
    let at_last = each_all (m - suc (m - 1)) (suc (m - 1)) (agrees w k) (λ j a b. absurd (omega arith)) in
    let (within, passes) = least_found m (k - 1) (agrees_above w k) (m - 1) (omega arith) (omega arith) at_last in
    let above : (j : ℕ) → h < j → j < m → OutNeg w (byte w j) j k = λ j a b.
    (outside_iff w (byte w j) j k).0 (all_each _ _ _ passes j a (omega arith)) in
    record {
      low = omega (arith, value.low);
      high = omega arith;
      outside = above;
      least = λ a.
          let (j, b, c, e) = some_fails _ _ _ (value.before (h - 1) (omega arith) (omega arith)) in
          let there = outside_fails w (byte w j) j k e in
          let h≤j : h ≤ j = omega arith in
          ⊎_elim (λ q. rw q there) (λ q. absurd (there.1 (above j q (omega arith) there.0))) (eq-or-lt_of_le h≤j);
    }

-- a number that meets the facts is not below another
not_below : (w : List ℕ) (k h h' : ℕ) → HMin w k h → HMin w k h' → ¬ (h < h')
not_below w k h h' r r' q = let (k≤h', differs) = r'.least (omega arith) in differs (r.outside h' q r'.high k≤h')

-- the number that meets the facts is h_min(k)
pub h_min_is : (w : List ℕ) (k h : ℕ) → 1 ≤ k → k ≤ length w → HMin w k h → h_min w k ≡ h
h_min_is w k h l u r = let f = h_min_facts w k l u in omega (arith, not_below w k (h_min w k) h f r, not_below w k h (h_min w k) r f)

-- above a position at which the pattern agrees, one position more agrees
pub agree_more :
    (w : List ℕ) (k i : ℕ) → byte w (i - k) ≡ byte w i → ((j : ℕ) → i < j → j < length w → OutNeg w (byte w j) j k) →
    (j : ℕ) → i ≤ j → j < length w → OutNeg w (byte w j) j k
agree_more w k i e above j a b l = ⊎_elim (λ q. rw q at e) (λ q. above j q b l) (eq-or-lt_of_le a)

pub h_min_period : (w : List ℕ) (k : ℕ) → 1 ≤ k → k ≤ length w → suc (h_min w k) ≡ k → HasPeriod w k
h_min_period w k l u e i b =
    let r = h_min_facts w k l u in
    let back : i + k - k ≡ i = omega arith in
    rw back at (r.outside (i + k) (omega arith) b (omega arith))

-- a period is outside Neg(w(i), i) for each position i
pub period_outside : (w : List ℕ) (k i : ℕ) → HasPeriod w k → i < length w → OutNeg w (byte w i) i k
period_outside w k i p b l = let back : i - k + k ≡ i = omega arith in rw back at (p (i - k) (omega arith))

pub period_h_min : (w : List ℕ) (k : ℕ) → 1 ≤ k → k ≤ length w → HasPeriod w k → suc (h_min w k) ≡ k
period_h_min w k l u p =
    let r = h_min_facts w k l u in
    let below : ¬ (k ≤ h_min w k) = λ q. (r.least q).1 (period_outside w k (h_min w k) p r.high q) in
    omega arith
