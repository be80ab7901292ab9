-- `tables_delta3::lower_last` meets its contract. The invariant: each of the last p entries i is
-- the least of r_min(i) and of the numbers above k, at most i, that Δ3(i) may be; the entries
-- before are 0. Assumes nothing.
use Rattle.std.proofs.Common.{◌≡◌, ◌∙◌, ◌+◌, ◌-◌, ◌<◌, ◌≤◌, ℕ, ℤ, pos, List, Bool, true, arith, sym, length}
use mathlib.Core.Logic.{◌↔◌}
use borrow.Author.Tests.{leb-true, ltb-true, le-leb, lt-ltb}
use lib.Dec.{leb}
use lib.IntN.{nat_abs}
use lib.ListN.{set, length-set}
use lib.Seq.{get_or-set_other}
use lib.Signed.{le_z, lt_z}
use mir.Syntax.{w16}
use mir.Val.{to_z, of_z}
use Rattle.tables.proofs.Cases.{clash}
use Rattle.tables.proofs.HMin.{h_min_facts, h_min_period, period_h_min}
use Rattle.tables.proofs.RepeatMinima.{LeastOver, least_over_none, least_over_here, least_over_other, least_over_all}
use Rattle.tables.proofs.RepeatMinima.{allowed_within, within_allowed, front_allowed, allowed_last}
use Rattle.tables.specs.Facts.{HasPeriod}
use Rattle.tables.specs.Tables.{h_min, period}
use Rattle.tables_delta3.proofs.lower_last.Goals as goal
use Rattle.tables_delta3.proofs.lower_last.Goals.{then-far-m, else-far-m}
use Rattle.tables_delta3.proofs.lower_last.Goals.{else-h-k-ge0-via-then-h-k-ge0+else-h_min-far-lt0, else-h-k-ge0-via-else-h-k-ge0}
use Rattle.tables_delta3.proofs.lower_last.Invariants.{Begun}
use Rattle.tables_minima.proofs.Entries.{entry, minus, Read, read}
use Rattle.tables_minima.proofs.Signed.{at_least_zero, below_zero}
use Rattle.tables_minima.proofs.Stores.{stored}
use Rattle.tables_minima.specs.Minima.{HMinTable}

module _ {w : List ℕ} {hs : List ℤ} {t : List ℕ} {k : ℕ} (r : Begun w t k) (l : 1 ≤ k) (at : Read w hs k) where
  -- the first test, of h_min(k) - k
  abbrev reaches : Bool
  reaches = le_z (pos 0) (to_z w16 (of_z w16 (minus hs k)))

  reaches-is : reaches ≡ leb k (h_min w k)
  reaches-is = rw at.minus_back (at_least_zero (h_min w k) k)

  -- h_min(k) is the only entry that k may be stored at
  take : reaches ≡ true → HasPeriod w (k + period w) → Begun w (set t (nat_abs (to_z w16 (entry hs k))) k) (k - 1)
  take e front =
      let h = h_min w k in
      let b = leb-true k h (sym reaches-is ∙ e) in
      let f = h_min_facts w k l (omega (arith, r)) in
      let a = allowed_within w h k f.high b f front in
      let last = allowed_last w h k f.high b a in
      rw at.back (record {
        size = length-set t _ k ∙ r.size;
        high = omega (arith, r);
        right = λ i u.
            stored (λ j x. length w ≤ j + period w → LeastOver w (k - 1) j x) 0 t h k (omega (arith, r))
            (λ c. least_over_here w k h l b f.high a)
            i
            (λ n c. least_over_other w k i _ (λ b' a'. n (sym (within_allowed w i k u l b' a'))) (r.right i u c));
        zeros = λ i u. get_or-set_other t h i k 0 (λ e. omega arith) ∙ r.zeros i u;
      })

  leave : (reaches ≡ true → HasPeriod w (k + period w) → ⊥) → Begun w t (k - 1)
  leave refuted = record {
    size = r.size;
    high = omega (arith, r);
    right = λ i u c.
        least_over_other w k i _ (λ b a.
        refuted (reaches-is ∙ le-leb k (h_min w k) (omega (arith, within_allowed w i k u l b a))) (front_allowed w i k u a)) (r.right i u c);
    zeros = r.zeros;
  }

-- the second test tells whether k + p is a period, which it is where it is at least m
module _ {w : List ℕ} {hs : List ℤ} {p : ℕ} (hm : HMinTable w hs) (is-period : p ≡ period w) (k : ℕ) {x : Bool} where
  far : length w ≤ k + p → x ≡ leb (length w) (k + p) → (x ≡ true) ↔ HasPeriod w (k + period w)
  far b e = rw (← is-period) (λ _ i u. absurd (omega arith), λ _. e ∙ le-leb _ _ b)

  near :
      1 ≤ k → k + p < length w → x ≡ lt_z (to_z w16 (of_z w16 (minus hs (k + p)))) (pos 0) → (x ≡ true) ↔ HasPeriod w (k + period w)
  near l b e =
      let n = k + p in
      let l' : 1 ≤ n = omega arith in
      let u : n ≤ length w = omega arith in
      let f = h_min_facts w n l' u in
      let test = rw ((read hm n l' u).minus_back, below_zero) at e in
      rw (← is-period) (
        λ z. h_min_period w n l' u (omega (arith, ltb-true (h_min w n) n (sym test ∙ z), f.low)),
        λ per. test ∙ lt-ltb (h_min w n) n (omega (arith, period_h_min w n l' u per)),
      )

pub loop-k-init : goal.loop-k-init
loop-k-init c =
    let filled = c.requires.values in
    record {
      size = c.requires.size;
      high = omega arith;
      right = λ i u l. rw ((filled i (omega arith)).0 (omega arith)) (least_over_none _ _ i (omega arith) u);
      zeros = λ i l. (filled i (omega arith)).1 (omega arith);
    }

pub bounds-table-h : goal.bounds-table-h
bounds-table-h c =
    let k = c.loop-k.k - 1 in
    let l : 1 ≤ k = omega arith in
    let u : k ≤ length c.args.pattern.now = omega arith in
    rw (read c.requires.h_min k l u).back (omega (arith, h_min_facts c.args.pattern.now k l u))

pub loop-k-preserved-then-h_min-far-lt0 : goal.loop-k-preserved-then-h_min-far-lt0
loop-k-preserved-then-h_min-far-lt0 c =
    let hm = c.requires.h_min in
    let per = c.requires.period in
    let k = c.loop-k.k - 1 in
    let l : 1 ≤ k = omega arith in
    let known : (c.if-far-m.value ≡ true) ↔ HasPeriod c.args.pattern.now (k + period c.args.pattern.now) =
    elim c.if-far-m.branch
    [ then-far-m v ↦ far hm per k v.if-far-m.true v.value-is | else-far-m v ↦ near hm per k l v.if-far-m.false v.value-is ] in
    take c.loop-k.invariant l (read hm k l (omega arith)) c.if-h-k-ge0.true (known.0 c.if-h_min-far-lt0.true)

pub loop-k-preserved : goal.loop-k-preserved
loop-k-preserved c =
    let hm = c.requires.h_min in
    let per = c.requires.period in
    let k = c.loop-k.k - 1 in
    let l : 1 ≤ k = omega arith in
    let at = read hm k l (omega arith) in
    elim c.else-h-k-ge0.branch [
      | else-h-k-ge0-via-then-h-k-ge0+else-h_min-far-lt0 w ↦
          let known : (w.if-far-m.value ≡ true) ↔ HasPeriod c.args.pattern.now (k + period c.args.pattern.now) =
          elim w.if-far-m.branch
          [ then-far-m v ↦ far hm per k v.if-far-m.true v.value-is | else-far-m v ↦ near hm per k l v.if-far-m.false v.value-is ] in
          leave c.loop-k.invariant l at (λ _ front. clash _ (known.1 front) w.if-h_min-far-lt0.false)
      | else-h-k-ge0-via-else-h-k-ge0 w ↦ leave c.loop-k.invariant l at (λ z _. clash _ z w.if-h-k-ge0.false)
    ]

pub returns : goal.returns
returns c i u =
    let r = c.loop-k.invariant in (
      λ l. least_over_all _ (c.loop-k.k - 1) i _ (omega arith) (omega arith) (r.right i (omega arith) (omega arith)),
      λ l. r.zeros i (omega arith),
    )
