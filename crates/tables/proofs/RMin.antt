-- The laws of r_min: its value, that the value is unique, and that it is a period.
-- h_min(m) = m - 1, so m passes r_min's test; r_min(r - 1) comes from r_min(r).
use mathlib.Core.Bool.{Bool}
use mathlib.Core.List.{List}
use mathlib.Core.Logic.{⊎_elim}
use mathlib.Core.Path.{◌≡◌, ap}
use Prim.Native.Nat.{ℕ, suc, ◌-◌, ◌≤◌, ◌<◌}
use native.Mathlib.Nat.{eq-or-lt_of_le}
use native.Mathlib.Omega.{arith}
use borrow.Author.Tests.{eqb-true, eqb-false, eq-eqb}
use lib.Dec.{eqb}
use lib.ListN.{length}
use Rattle.tables.proofs.HMin.{h_min_facts, h_min_period}
use Rattle.tables.proofs.Least.{least_facts, least_found}
use Rattle.tables.specs.Facts.{HasPeriod, RMin}
use Rattle.tables.specs.Tables.{h_min, r_min}

-- h_min(r) = r - 1
abbrev returns : (w : List ℕ) (r : ℕ) → Bool
returns w r = eqb (h_min w r) (r - 1)

pub r_min_facts : (w : List ℕ) (h : ℕ) → h < length w → RMin w h (r_min w h)
unfolding r_min
r_min_facts w h b =
    let m = length w in
    let last = h_min_facts w m (omega arith) (omega arith) in
    let value = least_facts m (suc h) (returns w) in
    let (within, passes) = least_found m (suc h) (returns w) m b (omega arith) (eq-eqb (h_min w m) (m - 1) (omega arith)) in
    record {
      above = value.low;
      within = within;
      value = omega (arith, eqb-true (h_min w (r_min w h)) (r_min w h - 1) passes);
      least = λ j l u e. eqb-false (h_min w j) (j - 1) (value.before j l u) (omega arith);
    }

pub r_min_unique : (w : List ℕ) (h r : ℕ) → RMin w h r → r_min w h ≡ r
r_min_unique w h r f =
    let g = r_min_facts w h (omega arith) in
    let p : ¬ (r_min w h < r) = λ q. f.least (r_min w h) g.above q g.value in
    let p' : ¬ (r < r_min w h) = λ q. g.least r f.above q f.value in
    omega arith

-- r_min(h) is a period
pub r_min_period : (w : List ℕ) (h r : ℕ) → RMin w h r → HasPeriod w r
r_min_period w h r f = h_min_period w r (omega arith) f.within f.value

-- r_min(r - 1) is r where h_min(r) = r - 1, and else r_min(r)
pub r_min_here : (w : List ℕ) (r : ℕ) → 1 ≤ r → r ≤ length w → h_min w r < r → RMin w (r - 1) r
r_min_here w r l u b =
    let f = h_min_facts w r l u in
    record { above = omega arith; within = u; value = omega arith; least = λ j a c. absurd (omega arith) }

pub r_min_other : (w : List ℕ) (r v : ℕ) → r ≤ h_min w r → RMin w r v → RMin w (r - 1) v
r_min_other w r v b f =
    record {
      above = omega arith;
      within = f.within;
      value = f.value;
      least = λ j a c.
          let from_r : r ≤ j = omega arith in
          ⊎_elim (λ q e. omega (arith, ap (h_min w) q)) (λ q. f.least j q c) (eq-or-lt_of_le from_r);
    }
