-- The shifts that are no period while they are linked, from m down: entries k to m - 1 are linked.
-- A number k is linked where it is no period, which r_min(k - 1) tells.
use mathlib.Core.List.{List}
use mathlib.Core.Logic.{◌≢◌, ◌⊎◌, inr, ⊎_elim}
use mathlib.Core.Path.{◌≡◌, refl, ◌∙◌}
use Prim.Native.Nat.{ℕ, ◌-◌, ◌≤◌, ◌<◌}
use native.Mathlib.Nat.{eq-or-lt_of_le}
use native.Mathlib.Omega.{arith}
use lib.ListN.{length, get_or, set, length-set}
use Rattle.tables_delta2.specs.Links.{Next, Left}
use Rattle.tables_minima.proofs.Stores.{stored}
use Rattle.tables.proofs.HMin.{period_h_min}
use Rattle.tables.proofs.RMin.{r_min_facts, r_min_period}
use Rattle.tables.specs.Facts.{HasPeriod}
use Rattle.tables.specs.Tables.{r_min}

-- at first nothing has to be kept
left_first : (w : List ℕ) (k : ℕ) → (HasPeriod w k → k ≡ length w) → Left w 0 k
left_first w k h = (λ x l. absurd (omega arith), h)

-- the linked shift after a number
abbrev pub After : (w : List ℕ) (x y : ℕ) → Type 0
After w x y = Next (Left w 0) (length w) x y

pub record Begun (w next : List ℕ) (k after : ℕ) : Type 0 where
  pub size : length next ≡ 129
  pub high : k ≤ length w
  pub here : (k ≡ length w × after ≡ length w) ⊎ After w k after
  pub linked : (x : ℕ) → k ≤ x → x < length w → After w x (get_or next x 0)

-- k is linked where it is no period, which r_min(k - 1) tells
module _ {w next : List ℕ} {k after : ℕ} (b : Begun w next k after) (l : 1 ≤ k) where
  is-period : r_min w (k - 1) ≡ k → HasPeriod w k
  is-period e = rw e at (r_min_period w (k - 1) (r_min w (k - 1)) (r_min_facts w (k - 1) (omega (arith, l, b.high))))

  no_period : r_min w (k - 1) ≢ k → HasPeriod w k → ⊥
  no_period d p =
      let r = r_min_facts w (k - 1) (omega (arith, l, b.high)) in
      r.least k (omega (arith, l)) (omega (arith, l, r.above)) (period_h_min w k l b.high p)

  pub before :
      (after' : ℕ) → ((r_min w (k - 1) ≢ k) × (after' ≡ k)) ⊎ ((r_min w (k - 1) ≡ k) × (after' ≡ after)) → After w (k - 1) after'
  before after' =
      ⊎_elim
      (λ (d, e).
      rw e
      (record {
        above = omega (arith, l);
        within = b.high;
        has = left_first w k (λ p. absurd (no_period d p));
        none_between = λ z a c q. omega arith;
      }))
      (λ (p, e). rw e (⊎_elim (λ (whole, last). rw last (at_end whole)) (further p) b.here))
    where
      at_end : k ≡ length w → After w (k - 1) (length w)
      at_end whole = record {
        above = omega arith;
        within = omega arith;
        has = left_first w (length w) (λ _. refl);
        none_between = λ z a c q. omega arith;
      }

      further : r_min w (k - 1) ≡ k → After w k after → After w (k - 1) after
      further p n = record {
        above = omega (arith, n.above);
        within = n.within;
        has = n.has;
        none_between = λ z a c q.
            ⊎_elim
            (λ e. omega (arith, n.above, n.within, q.1 (rw e at (is-period p))))
            (λ u. n.none_between z u c q)
            (eq-or-lt_of_le (from_k z a));
      }
        where
          from_k : (z : ℕ) → k - 1 < z → k ≤ z
          from_k z a = omega arith

  pub store : length w ≤ 128 → (after' : ℕ) → After w (k - 1) after' → Begun w (set next (k - 1) after') (k - 1) after'
  store few after' n = record {
    size = length-set next (k - 1) after' ∙ b.size;
    high = omega (arith, b.high);
    here = inr n;
    linked = λ x a u.
        stored (λ i y. After w i y) 0 next (k - 1) after' (omega (arith, l, few, b.high, b.size)) n x (λ d. b.linked x (omega arith) u);
  }
