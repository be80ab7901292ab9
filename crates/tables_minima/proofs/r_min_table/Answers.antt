-- `tables_minima::r_min_table` meets its contract. The invariant: the entries from r on are right,
-- and `least` is the least period above r. h_min(m) = m - 1, so the first turn sets `least`.
-- Assumes nothing.
use Rattle.std.proofs.Common.{◌≡◌, ◌∙◌, ◌-◌, ◌≤◌, ℕ, ℤ, pos, List, true, false, arith, sym, length}
use borrow.Author.Tests.{ltb-true, ltb-false}
use lib.ListN.{set, length-set}
use lib.Signed.{lt_z}
use mir.Syntax.{w16}
use mir.Val.{to_z, of_z}
use Rattle.tables.proofs.HMin.{h_min_facts}
use Rattle.tables.proofs.RMin.{r_min_unique, r_min_here, r_min_other}
use Rattle.tables.specs.Facts.{RMin}
use Rattle.tables.specs.Tables.{h_min, r_min}
use Rattle.tables_minima.proofs.Entries.{minus, Read, read}
use Rattle.tables_minima.proofs.Signed.{below_zero}
use Rattle.tables_minima.proofs.Stores.{stored}
use Rattle.tables_minima.proofs.r_min_table.Goals as goal
use Rattle.tables_minima.proofs.r_min_table.Goals.{Joined-h_min-r-lt0, then-h_min-r-lt0, else-h_min-r-lt0}
use Rattle.tables_minima.proofs.r_min_table.Invariants.{Begun}

store :
    {w t : List ℕ} {least r : ℕ} → Begun w t least r → length w ≤ 128 → 1 ≤ r → (v : ℕ) → RMin w (r - 1) v →
    Begun w (set t (r - 1) v) v (r - 1)
store {w} {t} {least} {r} b s l v f = record {
  size = length-set t _ v ∙ b.size;
  high = omega arith;
  above = λ a. f;
  right = λ h a u.
      stored (λ i x. x ≡ r_min w i) 0 t (r - 1) v (omega arith) (sym (r_min_unique w (r - 1) v f)) h (λ n. b.right h (omega arith) u);
}

-- after the branch `least` is the least period above r - 1
module _ {w : List ℕ} {hs : List ℤ} {t : List ℕ} {least r : ℕ} (b : Begun w t least r) (l : 1 ≤ r) (at : Read w hs r) where
  here : lt_z (to_z w16 (of_z w16 (minus hs r))) (pos 0) ≡ true → RMin w (r - 1) r
  here e = r_min_here w r l b.high (ltb-true (h_min w r) r (rw (at.minus_back, below_zero) at e))

  other : lt_z (to_z w16 (of_z w16 (minus hs r))) (pos 0) ≡ false → RMin w (r - 1) least
  other e =
      let low = ltb-false (h_min w r) r (rw (at.minus_back, below_zero) at e) in
      let facts = h_min_facts w r l b.high in
      r_min_other w r _ low (b.above (omega (arith, low, facts)))

after : (c : Joined-h_min-r-lt0) → RMin c.args.pattern.now (c.loop-r.r - 1) c.if-h_min-r-lt0.least
after c =
    let b = c.loop-r.invariant in
    let at = read c.requires.h_min c.loop-r.r (omega arith) (omega arith) in
    elim c.if-h_min-r-lt0.branch [
      | then-h_min-r-lt0 w ↦ rw w.least-is (here b (omega arith) at w.if-h_min-r-lt0.true)
      | else-h_min-r-lt0 w ↦ rw w.least-is (other b (omega arith) at w.if-h_min-r-lt0.false)
    ]

pub overflow_cast-r_min : goal.overflow_cast-r_min
overflow_cast-r_min c = omega (arith, after (goal.at.overflow_cast-r_min c).Joined-h_min-r-lt0)

pub loop-r-preserved : goal.loop-r-preserved
loop-r-preserved c =
    store c.loop-r.invariant (omega arith) (omega arith) _ (after (goal.at.loop-r-preserved c).Joined-h_min-r-lt0)
