-- Δ3 by h_min and r_min: Δ3(i) is the least of r_min(i) and of those k from 1 to i with h_min(k) = i for which w has period k + p.
-- A k above i has to keep the whole pattern; one at most i keeps what is below m - p just where w, which has period p, has period k + p.
use mathlib.Core.List.{List}
use mathlib.Core.Logic.{◌⊎◌, inl, inr, ⊎_elim}
use mathlib.Core.Path.{◌≡◌, sym, ◌∙◌}
use Prim.Native.Nat.{ℕ, ◌+◌, ◌*◌, ◌-◌, ◌≤◌, ◌<◌}
use native.Mathlib.Nat.{eq-or-lt_of_le}
use native.Mathlib.Omega.{arith}
use lib.ListN.{length}
use Rattle.tables.proofs.Cases.{le_or_lt}
use Rattle.tables.proofs.HMin.{h_min_is, period_outside, period_h_min}
use Rattle.tables.proofs.Periods.{period_facts}
use Rattle.tables.proofs.RepeatShift.{Allowed, Δ3_least}
use Rattle.tables.proofs.RMin.{r_min_facts, r_min_period}
use Rattle.tables.specs.Facts.{HasPeriod, HMin}
use Rattle.tables.specs.Tables.{h_min, r_min, period, Δ3}

-- a number above i is allowed just where it is a period
period_allowed : (w : List ℕ) (i k : ℕ) → i < k → HasPeriod w k → Allowed w i k
period_allowed w i k l per = (λ h. omega arith, λ g known. period_outside w k g per known.0)

allowed_period : (w : List ℕ) (i k : ℕ) → i < k → Allowed w i k → HasPeriod w k
allowed_period w i k l a j b =
    let back : j + k - k ≡ j = omega arith in
    rw back at (a.1 (j + k) (b, inl (omega arith)) (omega arith))

module _ (w : List ℕ) (i k : ℕ) (u : i < length w) where
  per : HasPeriod w (period w)
  per = (period_facts w (omega (arith, u))).value

  -- one at most i is allowed just where h_min(k) = i and k + p is a period
  pub allowed_within : k ≤ i → HMin w k i → HasPeriod w (k + period w) → Allowed w i k
  allowed_within b f front = (
    λ h. (f.least b).1 h.1,
    λ g (below, known) c.
        ⊎_elim
        (λ q. f.outside g q below c)
        (λ q.
        let there : g - k + (k + period w) ≡ g + period w = omega arith in
        rw there at (front (g - k) (omega arith)) ∙ sym (per g q))
        known,
  )

  pub within_allowed : 1 ≤ k → k ≤ i → Allowed w i k → h_min w k ≡ i
  within_allowed l b a =
      h_min_is w k i l (omega (arith, u))
      (record {
        low = omega arith;
        high = u;
        outside = λ j q below. a.1 j (below, inl q);
        least = λ c. (c, λ e. a.0 (c, e));
      })

  pub front_allowed : Allowed w i k → HasPeriod w (k + period w)
  front_allowed a j b =
      let back : j + k - k ≡ j = omega arith in
      let there : j + k + period w ≡ j + (k + period w) = omega arith in
      rw back at (a.1 (j + k) (omega arith, inr (omega arith)) (omega arith)) ∙ rw there at (per (j + k) (omega arith))

  -- then i is one of the last p positions
  pub allowed_last : k ≤ i → Allowed w i k → length w ≤ i + period w
  allowed_last b a =
      ⊎_elim (λ q. q) (λ q. absurd (a.0 (b, a.1 i (u, inr q) b))) (le_or_lt (length w) (i + period w))

  -- and k + 2 × p is above m: else w has period k too, and h_min(k) is not i
  period_less : k + 2 * period w ≤ length w → HasPeriod w (k + period w) → HasPeriod w k
  period_less s front j b =
      let p = period w in
      ⊎_elim
      (λ q.
      let before : j - p + p ≡ j = omega arith in
      let after : j - p + (k + p) ≡ j + k = omega arith in
      sym (rw before at (per (j - p) (omega arith))) ∙ rw after at (front (j - p) (omega arith)))
      (λ q.
      let after : j + (k + p) ≡ j + k + p = omega arith in
      rw after at (front j (omega arith)) ∙ sym (per (j + k) q))
      (le_or_lt (length w) (j + k + p))

  none_before : k ≤ i → k + 2 * period w ≤ length w → Allowed w i k → ⊥
  none_before b s a = a.0 (b, period_outside w k i (period_less s (front_allowed a)) u b)

-- v is the least of r_min(i) and of the numbers above k, at most i, that are allowed
pub record LeastOver (w : List ℕ) (k i v : ℕ) : Type 0 where
  pub positive : 1 ≤ v
  pub within : v ≤ length w
  pub allowed : Allowed w i v
  pub least : (j : ℕ) → (k < j) ⊎ (i < j) → j < v → Allowed w i j → ⊥

-- where all numbers at most i are still to come
pub least_over_none : (w : List ℕ) (k i : ℕ) → i ≤ k → i < length w → LeastOver w k i (r_min w i)
least_over_none w k i h u =
    let r = r_min_facts w i u in
    record {
      positive = omega arith;
      within = r.within;
      allowed = period_allowed w i _ r.above (r_min_period w i _ r);
      least = λ j l c a.
          let above : i < j = ⊎_elim (λ q. omega arith) (λ q. q) l in
          r.least j above c (period_h_min w j (omega arith) (omega arith) (allowed_period w i j above a));
    }

pub least_over_here : (w : List ℕ) (k i : ℕ) → 1 ≤ k → k ≤ i → i < length w → Allowed w i k → LeastOver w (k - 1) i k
least_over_here w k i l b u a =
    record {
      positive = l;
      within = omega arith;
      allowed = a;
      least = λ j h c _. ⊎_elim (λ q. omega arith) (λ q. omega arith) h;
    }

pub least_over_other :
    (w : List ℕ) (k i v : ℕ) → (k ≤ i → Allowed w i k → ⊥) → LeastOver w k i v → LeastOver w (k - 1) i v
least_over_other w k i v not_k r =
    record {
      positive = r.positive;
      within = r.within;
      allowed = r.allowed;
      least = λ j h c a.
          ⊎_elim
          (λ b. ⊎_elim (λ e. rw e at not_k b a) (λ q. r.least j (inl q) c a) (eq-or-lt_of_le (from_k j b h)))
          (λ b. r.least j (inr b) c a)
          (le_or_lt j i);
    }
  where
    from_k : (j : ℕ) → j ≤ i → (k - 1 < j) ⊎ (i < j) → k ≤ j
    from_k j b = ⊎_elim (λ q. omega arith) (λ q. omega arith)

-- where none is left that is allowed
pub least_over_all : (w : List ℕ) (k i v : ℕ) → k + 2 * period w ≤ length w → i < length w → LeastOver w k i v → v ≡ Δ3 w i
least_over_all w k i v s u r =
    sym (Δ3_least w i v u r.positive r.within r.allowed (λ j l c a.
    ⊎_elim
    (λ q. ⊎_elim (λ b. none_before w i j u b (omega arith) a) (λ b. r.least j (inr b) c a) (le_or_lt j i))
    (λ q. r.least j (inl q) c a)
    (le_or_lt j k)))
