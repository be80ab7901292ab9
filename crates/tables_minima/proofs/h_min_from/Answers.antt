-- `tables_minima::h_min_from` meets its contract. The invariant: `below` is i - k for a position i
-- above which the pattern agrees with itself k positions on. Where the loop is left i is k - 1 or
-- differs, so it is h_min(k). Assumes nothing.
use Rattle.std.proofs.Common.{◌≡◌, ◌≢◌, ◌∙◌, ◌+◌, ◌-◌, ◌^◌, ◌<◌, ◌≤◌, ℕ, ℤ, ◌+ℤ◌, ◌-ℤ◌, pos, List, true, false, arith, ap, sym}
use borrow.Author.Tests.{leb-true, leb-false}
use lib.IntN.{nat_abs, sub_ℕ}
use lib.Signed.{le_z}
use mir.Syntax.{w16}
use mir.Val.{of_z, to_z}
use mir.ValLaws.{to_z_pos}
use Rattle.std.proofs.lemmas.Int.{ints}
use Rattle.tables.proofs.HMin.{h_min_is, agree_more}
use Rattle.tables.specs.Sets.{byte}
use Rattle.tables.specs.Tables.{h_min}
use Rattle.tables_minima.proofs.Signed.{subℕ_pos, minus_plus, at_least_zero, difference_back}
use Rattle.tables_minima.proofs.h_min_from.Goals as goal
use Rattle.tables_minima.proofs.h_min_from.Goals.{then-loop-below-test+else-pattern-below, else-loop-below-test}
use Rattle.tables_minima.proofs.h_min_from.Invariants.{ComparedDown}
use Rattle.tables_minima.specs.Minima.{HMinBegun}

-- one taken away before and after
one_less : (i k : ℕ) → 1 ≤ k → k ≤ i → sub_ℕ (i - k) 1 ≡ sub_ℕ (i - 1) k
one_less i k l u = omega (arith, ints, minus_plus (i - k) 1, minus_plus (i - 1) k)

module _ {w : List ℕ} {k from : ℕ} {below : ℤ} (b : HMinBegun w k from) (r : ComparedDown w k from below) where
  small-i : r.i < 2 ^ 15
  small-i = omega (arith, b, r)

  small-k : k < 2 ^ 15
  small-k = omega (arith, b)

  -- in a turn `below` is a position
  position : le_z (pos 0) below ≡ true → (k ≤ r.i) × (below ≡ pos (r.i - k))
  position e =
      let k≤i = leb-true k r.i (rw (r.is, at_least_zero) at e) in
      (k≤i, r.is ∙ subℕ_pos r.i k k≤i)

  back : k ≤ r.i → r.i - k + k ≡ r.i
  back l = omega arith

  next :
      le_z (pos 0) below ≡ true → byte w (nat_abs below) ≡ byte w (nat_abs below + k) →
      ComparedDown w k from (to_z w16 (of_z w16 (below -ℤ pos 1)))
  next e f =
      let (k≤i, at) = position e in
      let i = r.i in
      let same = rw (at, back k≤i) at f in
      record {
        i = i - 1;
        low = omega (arith, b);
        high = omega (arith, r);
        is = rw at (difference_back (i - k) 1 (omega (arith, small-i)) (omega arith) ∙ one_less i k b.positive k≤i);
        agree = λ j l u. agree_more w k i same r.agree j (omega arith) u;
      }

  found : (k ≤ r.i → byte w (r.i - k) ≢ byte w r.i) → h_min w k ≡ r.i
  found differs =
      h_min_is w k r.i b.positive (omega (arith, b, r))
      (record { low = omega (arith, r.low); high = omega (arith, b, r); outside = r.agree; least = λ l. (l, differs l) })

  passed : le_z (pos 0) below ≡ false → h_min w k ≡ r.i
  passed e = found (λ l. absurd (omega (arith, leb-false k r.i (rw (r.is, at_least_zero) at e))))

  differed : le_z (pos 0) below ≡ true → byte w (nat_abs below) ≢ byte w (nat_abs below + k) → h_min w k ≡ r.i
  differed e f =
      let (k≤i, at) = position e in
      found (λ l. rw (at, back k≤i) at f)

  sum : h_min w k ≡ r.i → to_z w16 (of_z w16 (below +ℤ to_z w16 k)) ≡ pos (h_min w k)
  sum e =
      let is_i : below +ℤ to_z w16 k ≡ pos r.i = rw (r.is, to_z_pos w16 k small-k) (minus_plus r.i k) in
      rw is_i (to_z_pos w16 r.i small-i ∙ ap pos (sym e))

pub loop-below-preserved : goal.loop-below-preserved
loop-below-preserved c = next c.requires c.loop-below.invariant c.loop-below-test.true c.if-pattern-below.true

pub returns : goal.returns
returns c =
    let b = c.requires in
    let r = c.loop-below.invariant in
    elim c.loop-below-test.branch [
      | then-loop-below-test+else-pattern-below w ↦ sum b r (differed b r w.loop-below-test.true w.if-pattern-below.false)
      | else-loop-below-test w ↦ sum b r (passed b r w.loop-below-test.false)
    ]
