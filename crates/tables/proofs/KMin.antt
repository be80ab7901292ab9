-- The laws of k_min: it is 0 where no k has h_min(k) = h at or above k, else the least such k; and both are unique.
-- The least number that passes k_min's test is at most m just where one passes. The least of those above k comes from that above k + 1.
use mathlib.Core.Bool.{Bool, ◌&&◌, and-eq-true_iff}
use mathlib.Core.List.{List}
use mathlib.Core.Logic.{◌≢◌, ◌⊎◌, inl, inr, ⊎_elim}
use mathlib.Core.Path.{◌≡◌, refl, sym, ◌∙◌}
use Prim.Native.Nat.{ℕ, ◌-◌, ◌≤◌, ◌<◌}
use native.Mathlib.Nat.{eq-or-lt_of_le}
use native.Mathlib.Omega.{arith}
use borrow.Author.Tests.{leb-true, leb-false, eqb-true, eqb-false, le-leb, lt-leb}
use lib.Dec.{leb, eqb}
use lib.ListN.{length}
use Rattle.tables.proofs.Cases.{le_or_lt, and_fails}
use Rattle.tables.proofs.HMin.{h_min_facts}
use Rattle.tables.proofs.Least.{Least, least_facts}
use Rattle.tables.specs.Facts.{HMin, KMin, NoKMin}
use Rattle.tables.specs.Least.{least_from}
use Rattle.tables.specs.Tables.{h_min, k_min}

-- h_min(k) = h and h is at least k
abbrev reaches : (w : List ℕ) (h k : ℕ) → Bool
reaches w h k = eqb (h_min w k) h && leb k h

-- no number before the least one that passes has h_min = h
before :
    (w : List ℕ) (h v : ℕ) → Least (length w) 1 (reaches w h) v →
    (j : ℕ) → 1 ≤ j → j < v → j ≤ h → h_min w j ≢ h
before w h v r j l u b =
    ⊎_elim (eqb-false _ _) (λ e. absurd (omega (arith, leb-false j h e))) (and_fails (eqb (h_min w j) h) (leb j h) (r.before j l u))

pub k_min_cases : (w : List ℕ) (h : ℕ) → h < length w → ((k_min w h ≡ 0) × NoKMin w h) ⊎ KMin w h (k_min w h)
unfolding k_min
k_min_cases w h b =
    let v = least_from (length w) 1 (reaches w h) in
    let value = least_facts (length w) 1 (reaches w h) in
    ⊎_elim
    (λ (u : v ≤ length w).
    let passes = (and-eq-true_iff (eqb (h_min w v) h) (leb v h)).0 (value.passes (omega arith)) in
    let within = leb-true v h passes.1 in
    rw (le-leb v (length w) u)
    (inr (record {
      positive = value.low;
      within = within;
      value = eqb-true (h_min w v) h passes.0;
      least = λ j l c. before w h v value j l c (omega arith);
    })))
    (λ u. rw (lt-leb v (length w) u) (inl (refl, λ k l c. before w h v value k l (omega arith) c)))
    (le_or_lt v (length w))

-- h is h_min(k) for k = k_min(h)
pub k_min_h_min : (w : List ℕ) (h k : ℕ) → KMin w h k → h < length w → HMin w k h
k_min_h_min w h k r b = rw r.value at (h_min_facts w k r.positive (omega arith))

-- two k's that are k_min(h) are equal
k_min_same : (w : List ℕ) (h k k' : ℕ) → KMin w h k → KMin w h k' → k ≡ k'
k_min_same w h k k' r r' =
    let p : ¬ (k < k') = λ q. r'.least k r.positive q r.value in
    let p' : ¬ (k' < k) = λ q. r.least k' r'.positive q r'.value in
    omega arith

pub k_min_unique : (w : List ℕ) (h k : ℕ) → KMin w h k → h < length w → k_min w h ≡ k
k_min_unique w h k r b = ⊎_elim (λ c. absurd (c.1 k r.positive r.within r.value)) (λ c. k_min_same w h _ _ c r) (k_min_cases w h b)

pub no_k_min_unique : (w : List ℕ) (h : ℕ) → NoKMin w h → h < length w → k_min w h ≡ 0
no_k_min_unique w h r b = ⊎_elim (λ c. c.0) (λ c. absurd (r (k_min w h) c.positive c.within c.value)) (k_min_cases w h b)

-- v is the least of the numbers above k, and at most h, with h_min = h; 0 where there is none
abbrev pub LeastAbove : (w : List ℕ) (k h v : ℕ) → Type 0
LeastAbove w k h v =
    ((v ≡ 0) × ((j : ℕ) → k < j → j ≤ h → h_min w j ≢ h)) ⊎
    ((k < v) × (v ≤ h) × (h_min w v ≡ h) × ((j : ℕ) → k < j → j < v → h_min w j ≢ h))

pub least_above_here : (w : List ℕ) (k h : ℕ) → 1 ≤ k → k ≤ h → h_min w k ≡ h → LeastAbove w (k - 1) h k
least_above_here w k h l u e = inr (omega arith, u, e, λ j a b. absurd (omega arith))

pub least_above_other : (w : List ℕ) (k h v : ℕ) → (k ≤ h → h_min w k ≢ h) → LeastAbove w k h v → LeastAbove w (k - 1) h v
least_above_other w k h v not_k =
    ⊎_elim
    (λ c. inl (c.0, λ j a b. ⊎_elim (λ q. rw q at not_k b) (λ q. c.1 j q b) (eq-or-lt_of_le (below j a))))
    (λ c. inr (omega arith, c.1, c.2, λ j a b. ⊎_elim (λ q. rw q at not_k (omega arith)) (λ q. c.3 j q b) (eq-or-lt_of_le (below j a))))
  where
    below : (j : ℕ) → k - 1 < j → k ≤ j
    below j a = omega arith

pub least_above_all : (w : List ℕ) (k h v : ℕ) → k ≡ 0 → h < length w → LeastAbove w k h v → v ≡ k_min w h
least_above_all w k h v z b =
    ⊎_elim
    (λ c. c.0 ∙ sym (no_k_min_unique w h (rw z at c.1) b))
    (λ c. sym (k_min_unique w h v (record { positive = omega arith; within = c.1; value = c.2; least = rw z at c.3 }) b))
