-- `tables_minima::h_min_table` meets its contract. The invariant: the entries from 1 to k - 1 are
-- right, and `base` is one of these. Where the entry at k - base lies high enough it is the entry
-- at k too, and else all above the position compared first agree. Assumes nothing.
use Rattle.std.proofs.Common.{◌≡◌, ◌∙◌, ◌+◌, ◌-◌, ◌<◌, ◌≤◌, ℕ, ℤ, pos, List, Bool, true, false, arith, sym, ap, length, get_or}
use borrow.Author.Tests.{ltb-true, ltb-false}
use lib.Dec.{ltb}
use Prim.Native.Nat.{min}
use lib.IntN.{nat_abs}
use lib.ListN.{set, length-set}
use lib.Signed.{lt_z}
use mir.Syntax.{w16}
use mir.Val.{to_z, of_z}
use mir.ValLaws.{to_z_pos}
use Rattle.tables.proofs.HMin.{h_min_facts}
use Rattle.tables.specs.Buffers.{PatternTaken}
use Rattle.tables.specs.Tables.{h_min}
use Rattle.tables_minima.proofs.Copied.{copied, known_above}
use Rattle.tables_minima.proofs.Entries.{entry, minus, Read, read_one}
use Rattle.tables_minima.proofs.Signed.{exceeds}
use Rattle.tables_minima.proofs.Stores.{stored}
use Rattle.tables_minima.proofs.h_min_table.Goals as goal
use Rattle.tables_minima.proofs.h_min_table.Goals.{Joined-h-d, then-h-d, else-h-d}
use Rattle.tables_minima.proofs.h_min_table.Invariants.{Begun, Filled}
use Rattle.tables_minima.specs.Minima.{HMinBegun}

-- the test of a turn, and the position above which all agree where it fails
abbrev lies_higher : List ℤ → (base d : ℕ) → Bool
lies_higher t base d = lt_z (to_z w16 (entry t base)) (to_z w16 (of_z w16 (minus t d)))

abbrev known : List ℤ → (base d : ℕ) → ℕ
known t base d = nat_abs (to_z w16 (entry t base)) + d

module _ {w : List ℕ} (taken : PatternTaken w) where
  more :
      {t : List ℤ} {k : ℕ} → Filled w t k → (z : ℤ) → 1 ≤ k → k ≤ length w → z ≡ pos (h_min w k) →
      Filled w (set t k (to_z w16 (of_z w16 z))) (k + 1)
  more {t} {k} r z l u e = record {
    size = length-set t k _ ∙ r.size;
    high = omega arith;
    right = λ j a c.
        stored (λ i x. x ≡ pos (h_min w i)) (pos 0) t k _ (omega (arith, taken))
        (rw e (to_z_pos w16 (h_min w k) (omega (arith, taken, h_min_facts w k l u)))) j
        (λ n. r.right j a (omega arith));
  }

  module _ {t : List ℤ} {base k : ℕ} (r : Begun w t base k) (u : k ≤ length w) where
    abbrev d : ℕ
    d = k - base

    read_below : (j : ℕ) → 1 ≤ j → j < k → Read w t j
    read_below j l b = read_one taken t j l (omega (arith, u)) (r.filled.right j l b)

    read-base : Read w t base
    read-base = read_below base r.low r.below

    read-d : Read w t d
    read-d = read_below d (omega (arith, r)) (omega (arith, r))

    known_is : known t base d ≡ h_min w base + d
    known_is = rw read-base.back

    tests : lies_higher t base d ≡ ltb (h_min w base + d) (h_min w d)
    tests = rw (read-base.back, read-d.minus_back) (exceeds (h_min w base) (h_min w d) d)

    copies : lies_higher t base d ≡ true → get_or t d (pos 0) ≡ pos (h_min w k)
    copies e =
        let higher = ltb-true (h_min w base + d) (h_min w d) (sym tests ∙ e) in
        r.filled.right d (omega (arith, r)) (omega (arith, r))
        ∙ ap pos (sym (copied w base d k r.low (omega (arith, r)) (omega (arith, r)) u higher))

    begins : lies_higher t base d ≡ false → (from : ℕ) → from ≡ min (known t base d) (length w - 1) → HMinBegun w k from
    begins e from which =
        let not-higher = ltb-false (h_min w base + d) (h_min w d) (sym tests ∙ e) in
        let at_base = h_min_facts w base r.low (omega (arith, r, u)) in
        record {
          taken = taken;
          positive = omega (arith, r);
          low = omega (arith, r, known_is, at_base);
          high = omega (arith, r, u);
          outside = λ j l v.
              known_above w base d k r.low (omega (arith, r)) (omega (arith, r)) u not-higher j (omega (arith, known_is)) v;
        }

pub h_min_from-requires-else-h-d : goal.h_min_from-requires-else-h-d
h_min_from-requires-else-h-d c =
    begins c.requires.taken c.loop-k.invariant (omega arith) c.if-h-d.false c.min-from.result c.min-from.ensures

-- a turn ends with the entry at k right too
turned : (c : Joined-h-d) → Begun c.args.pattern.now c.if-h-d.h_min c.if-h-d.base (c.loop-k.k + 1)
turned c =
    let taken = c.requires.taken in
    let r = c.loop-k.invariant in
    elim c.if-h-d.branch [
      | then-h-d w ↦
          let copied = more taken r.filled _ (omega arith) (omega arith) (copies taken r (omega arith) w.if-h-d.true) in
          rw (w.h_min-is, w.base-is) (record { low = r.low; below = omega arith; filled = copied })
      | else-h-d w ↦
          let compared = more taken r.filled _ (omega arith) (omega arith) w.h_min_from-else-h-d.ensures in
          rw (w.h_min-is, w.base-is) (record { low = omega arith; below = omega arith; filled = compared })
    ]

pub loop-k-preserved : goal.loop-k-preserved
loop-k-preserved c = turned (goal.at.loop-k-preserved c).Joined-h-d

pub returns-after-h-d : goal.returns-after-h-d
returns-after-h-d c =
    let all = turned (goal.at.returns-after-h-d c).Joined-h-d in
    record { taken = c.requires.taken; entry = λ k l u. all.filled.right k l (omega arith) }
