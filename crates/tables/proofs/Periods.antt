-- The laws of the period: its value, that it is above each k_min and at most each r_min, and that it is r_min(0).
-- The numbers from 1 to m - 1 are tested, and m is a period. Were k_min(h) = k above the period p, then h_min(k - p) = h too.
use mathlib.Core.Bool.{Bool}
use mathlib.Core.List.{List}
use mathlib.Core.Logic.{⊎_elim}
use mathlib.Core.Path.{◌≡◌, sym, ◌∙◌}
use Prim.Native.Nat.{ℕ, ◌+◌, ◌-◌, ◌≤◌, ◌<◌}
use native.Mathlib.Omega.{arith}
use borrow.Author.Tests.{eqb-true, eq-eqb}
use lib.Dec.{eqb}
use lib.ListN.{length}
use Rattle.tables.proofs.Cases.{le_or_lt, clash}
use Rattle.tables.proofs.HMin.{h_min_facts, h_min_is, h_min_period, period_h_min}
use Rattle.tables.proofs.KMin.{k_min_h_min}
use Rattle.tables.proofs.Least.{least_facts, all_each, each_all}
use Rattle.tables.proofs.RMin.{r_min_unique, r_min_period}
use Rattle.tables.specs.Facts.{InNeg, HasPeriod, HMin, KMin, RMin, Period}
use Rattle.tables.specs.Least.{all_from}
use Rattle.tables.specs.Sets.{byte}
use Rattle.tables.specs.Tables.{h_min, r_min, period}

-- w(i) = w(i + p) wherever both are in the pattern
abbrev repeating : (w : List ℕ) (p : ℕ) → Bool
repeating w p = all_from (length w - p) 0 (λ i. eqb (byte w i) (byte w (i + p)))

pub period_facts : (w : List ℕ) → 1 ≤ length w → Period w (period w)
unfolding period
period_facts w b =
    let m = length w in
    let p = period w in
    let r = least_facts (m - 1) 1 (repeating w) in
    record {
      positive = r.low;
      within = omega arith;
      value = λ i u. eqb-true _ _ (all_each _ _ _ (r.passes (omega arith)) i (omega arith) (omega arith));
      least = λ j l u h. clash _ (each_all _ _ _ (λ i a b. eq-eqb _ _ (h i (omega arith)))) (r.before j l u);
    }

-- a shift below the period moves some byte of the pattern onto another
pub period_refutes : (w : List ℕ) (j : ℕ) → 1 ≤ length w → 1 ≤ j → j < period w → (g : ℕ) × (g < length w) × InNeg w (byte w g) g j
period_refutes w j some l u =
    let p = period_facts w some in
    let h = h_min_facts w j l (omega (arith, p.within)) in
    ⊎_elim
    (λ b. (h_min w j, h.high, h.least b))
    (λ b. absurd (p.least j l u (h_min_period w j l (omega (arith, p.within)) (omega (arith, h.low)))))
    (le_or_lt j (h_min w j))

-- if w has a period p below k, then what k says of a position, k - p says too
h_min_less : (w : List ℕ) (p k h : ℕ) → HasPeriod w p → p < k → k ≤ h → HMin w k h → HMin w (k - p) h
h_min_less w p k h per b l r =
    record {
      low = omega arith;
      high = r.high;
      outside = λ j a u i. same j (omega arith) u ∙ r.outside j a u (omega arith);
      least = λ a. (a, λ e. (r.least l).1 (sym (same h l r.high) ∙ e));
    }
  where
    same : (j : ℕ) → k ≤ j → j < length w → byte w (j - (k - p)) ≡ byte w (j - k)
    same j a u =
        let nearer : j - k + p ≡ j - (k - p) = omega arith in
        sym (rw nearer at (per (j - k) (omega arith)))

pub k_min_below_period : (w : List ℕ) (h k : ℕ) → KMin w h k → h < length w → k < period w
k_min_below_period w h k r b =
    let p = period w in
    let f = period_facts w (omega arith) in
    let not_equal : ¬ (p ≡ k) = λ e. omega (arith, r.value, period_h_min w k r.positive (omega arith) (rw e at f.value)) in
    let not_less : ¬ (p < k) = λ q.
    let at_h = h_min_less w p k h f.value q r.within (k_min_h_min w h k r b) in
    r.least (k - p) (omega arith) (omega arith) (h_min_is w (k - p) h (omega arith) (omega arith) at_h) in
    omega arith

pub period_le_r_min : (w : List ℕ) (h r : ℕ) → RMin w h r → period w ≤ r
period_le_r_min w h r f =
    let p = period_facts w (omega arith) in
    let not_below : ¬ (r < period w) = λ q. p.least r (omega arith) q (r_min_period w h r f) in
    omega arith

pub period_r_min : (w : List ℕ) → 1 ≤ length w → period w ≡ r_min w 0
period_r_min w b =
    let p = period_facts w b in
    sym (r_min_unique w 0 (period w)
    (record {
      above = p.positive;
      within = p.within;
      value = period_h_min w (period w) p.positive p.within p.value;
      least = λ j l u e. p.least j l u (h_min_period w j l (omega arith) e);
    }))
