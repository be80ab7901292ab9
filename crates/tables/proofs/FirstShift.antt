-- The law of Δ1: what its value is.
-- m is outside both sets, so the least number that passes Δ1's test does; each smaller one is in one of the two sets.
use mathlib.Core.Bool.{Bool, true, false, ◌&&◌, and-eq-true_iff}
use mathlib.Core.List.{List}
use mathlib.Core.Logic.{inl, inr, ⊎_elim}
use mathlib.Core.Path.{◌≡◌, sym, ◌∙◌}
use Prim.Native.Nat.{ℕ, ◌+◌, ◌-◌, ◌≤◌, ◌<◌}
use native.Mathlib.Omega.{arith}
use borrow.Author.Tests.{lt-ltb, le-ltb}
use lib.IntN.{pos, sub_ℕ}
use lib.ListN.{length}
use Rattle.tables.proofs.Cases.{le_or_lt, clash, and_fails}
use Rattle.tables.proofs.Least.{least_facts, least_found, outside_iff, outside_fails, outside_empty}
use Rattle.tables.specs.Facts.{InNeg, FirstShift}
use Rattle.tables.specs.Sets.{byte, outside, Neg}
use Rattle.tables.specs.Tables.{Δ1}

-- k is outside Neg(w(m - s - 1), m - s - 1)
abbrev keeps_last : (w : List ℕ) (s k : ℕ) → Bool
keeps_last w s k = outside (Neg w (byte w (length w - s - 1)) (sub_ℕ (length w) (s + 1))) k

-- k is outside Neg(c, m - 1)
abbrev keeps_seen : (w : List ℕ) (c k : ℕ) → Bool
keeps_seen w c k = outside (Neg w c (pos (length w - 1))) k

-- position m - s - 1 is g, and for s = m there is none
at_last : (w : List ℕ) (s k g : ℕ) → g + s + 1 ≡ length w → keeps_last w s k ≡ outside (Neg w (byte w g) (pos g)) k
at_last w s k g e =
    let place : length w - s - 1 ≡ g = omega arith in
    let same : length w - (s + 1) ≡ g = omega arith in
    rw (le-ltb (length w) (s + 1) (omega arith), place, same)

no_last : (w : List ℕ) (s k : ℕ) → length w ≤ s → keeps_last w s k ≡ true
no_last w s k b = rw (lt-ltb (length w) (s + 1) (omega arith)) (outside_empty w _ _ k)

-- m is outside both sets
m_passes : (w : List ℕ) (c s : ℕ) → 1 ≤ length w → keeps_last w s (length w) && keeps_seen w c (length w) ≡ true
m_passes w c s b =
    let m = length w in
    let above : (x g : ℕ) → g < m → outside (Neg w x (pos g)) m ≡ true = λ x g l. (outside_iff w x g m).1 (λ i. absurd (omega arith)) in
    let last = ⊎_elim (no_last w s m) (λ l. at_last w s m (m - s - 1) (omega arith) ∙ above _ (m - s - 1) (omega arith)) (le_or_lt m s) in
    rw (last, above c (m - 1) (omega arith))

-- where k is not outside the first set, there is a position m - s - 1
fails_last : (w : List ℕ) (s k : ℕ) → keeps_last w s k ≡ false → (g : ℕ) × (g + s + 1 ≡ length w) × InNeg w (byte w g) g k
fails_last w s k e =
    let g = length w - s - 1 in
    ⊎_elim
    (λ b. absurd (clash _ (no_last w s k b) e))
    (λ b. (g, omega arith, outside_fails w (byte w g) g k (rw (at_last w s k g (omega arith)) at e)))
    (le_or_lt (length w) s)

-- Δ1 is at least 1, whatever s is
pub Δ1_positive : (w : List ℕ) (c s : ℕ) → 1 ≤ Δ1 w c s
unfolding Δ1
Δ1_positive w c s = (least_facts (length w) 1 _).low

pub Δ1_facts : (w : List ℕ) (c s : ℕ) → 1 ≤ s → s ≤ length w → FirstShift w c s (Δ1 w c s)
unfolding Δ1
Δ1_facts w c s l u =
    let m = length w in
    let k = Δ1 w c s in
    let passes : ℕ → Bool = λ i. keeps_last w s i && keeps_seen w c i in
    let value = least_facts m 1 passes in
    let (within, both) = least_found m 1 passes m (omega arith) (omega arith) (m_passes w c s (omega arith)) in
    record {
      positive = value.low;
      within = within;
      outside_last = λ g e. (outside_iff w (byte w g) g k).0 (sym (at_last w s k g e) ∙ ((and-eq-true_iff (keeps_last w s k) _).0 both).0);
      outside_seen = λ g e.
          let place : g ≡ m - 1 = omega arith in
          rw place ((outside_iff w c (m - 1) k).0 ((and-eq-true_iff (keeps_last w s k) _).0 both).1);
      least = λ j a b.
          ⊎_elim (λ e. inl (fails_last w s j e)) (λ e. inr (m - 1, omega arith, outside_fails w c (m - 1) j e))
          (and_fails (keeps_last w s j) (keeps_seen w c j) (value.before j a b));
    }
