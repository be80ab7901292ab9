-- `tables_minima::k_min_table` meets its contract. The invariant: each entry h is the least of the
-- numbers above k with h_min = h, at most h, and 0 where there is none. Assumes nothing.
use Rattle.std.proofs.Common.{◌≡◌, ◌∙◌, ◌-◌, ◌≤◌, ℕ, ℤ, pos, List, true, false, arith, refl, sym, ap, length}
use mathlib.Core.Logic.{inl}
use borrow.Author.Tests.{leb-true, leb-false}
use lib.IntN.{nat_abs}
use lib.ListN.{set, length-set, get_or-replicate}
use lib.Signed.{le_z}
use mir.Syntax.{w16}
use mir.Val.{to_z, of_z}
use Rattle.tables.proofs.KMin.{LeastAbove, least_above_here, least_above_other, least_above_all}
use Rattle.tables.specs.Tables.{h_min}
use Rattle.tables_minima.proofs.Entries.{entry, minus, Read, read}
use Rattle.tables_minima.proofs.Signed.{at_least_zero}
use Rattle.tables_minima.proofs.Stores.{stored}
use Rattle.tables_minima.proofs.k_min_table.Goals as goal
use Rattle.tables_minima.proofs.k_min_table.Goals.{then-h-k-ge0, else-h-k-ge0}
use Rattle.tables_minima.proofs.k_min_table.Invariants.{Begun}

module _ {w : List ℕ} {hs : List ℤ} {t : List ℕ} {k : ℕ} (r : Begun w t k) (l : 1 ≤ k) (at : Read w hs k) where
  take : le_z (pos 0) (to_z w16 (of_z w16 (minus hs k))) ≡ true → Begun w (set t (nat_abs (to_z w16 (entry hs k))) k) (k - 1)
  take e = rw at.back (record {
    size = length-set t _ k ∙ r.size;
    high = omega (arith, r);
    right = λ h u.
        stored (LeastAbove w (k - 1)) 0 t (h_min w k) k (omega (arith, at, r))
        (least_above_here w k _ l (leb-true _ _ (rw (at.minus_back, at_least_zero) at e)) refl)
        h
        (λ n. least_above_other w k h _ (λ a q. n (sym q)) (r.right h u));
  })

  leave : le_z (pos 0) (to_z w16 (of_z w16 (minus hs k))) ≡ false → Begun w t (k - 1)
  leave e =
      let below = leb-false k (h_min w k) (rw (at.minus_back, at_least_zero) at e) in
      record {
        size = r.size;
        high = omega (arith, r);
        right = λ h u. least_above_other w k h _ (λ a q. omega arith) (r.right h u);
      }

pub loop-k-init : goal.loop-k-init
loop-k-init c = record {
  size = ap length c.requires.zeros;
  high = omega arith;
  right = λ h b. inl (rw c.requires.zeros (get_or-replicate 129 h 0 0 (omega arith)), λ j a u. absurd (omega arith));
}

pub bounds-k_min-h : goal.bounds-k_min-h
bounds-k_min-h c =
    let at = read c.requires.h_min c.loop-k.k (omega arith) (omega arith) in
    rw at.back (omega arith)

pub loop-k-preserved : goal.loop-k-preserved
loop-k-preserved c =
    let r = c.loop-k.invariant in
    let at = read c.requires.h_min c.loop-k.k (omega arith) (omega arith) in
    elim c.if-h-k-ge0.branch [
      | then-h-k-ge0 w ↦ rw w.k_min-is (take r (omega arith) at w.if-h-k-ge0.true)
      | else-h-k-ge0 w ↦ rw w.k_min-is (leave r (omega arith) at w.if-h-k-ge0.false)
    ]

pub returns : goal.returns
returns c =
    record { entry = λ h b. least_above_all _ c.loop-k.k h _ (omega arith) b (c.loop-k.invariant.right h b) }
