-- The laws of Δ2: its facts (`Δ2_facts`), which fix it (`Δ2_is`); it is at least document 002's shift, r_min in the third group, the period at the end.
-- m passes its test, so the least that passes does; a shift j below k_min or r_min is refuted by h_min(j), or is a period and refuted by the h that differed.
use mathlib.Core.Bool.{Bool, true, false, ◌&&◌, ◌||◌, and-eq-true_iff}
use mathlib.Core.List.{List}
use mathlib.Core.Logic.{◌⊎◌, ⊎_elim}
use mathlib.Core.Path.{◌≡◌, refl, sym, ◌∙◌}
use Prim.Native.Nat.{ℕ, zero, suc, ◌+◌, ◌*◌, ◌-◌, ◌≤◌, ◌<◌, min}
use native.Mathlib.Nat.{eq-or-lt_of_le}
use native.Mathlib.Omega.{arith}
use borrow.Author.Tests.{ne_eqb, le-ltb, lt-ltb, not-true, not-false}
use lib.Dec.{ltb}
use lib.IntN.{pos}
use lib.ListN.{length, get_or}
use Rattle.tables.proofs.Cases.{true_or_false, le_or_lt, clash, and_fails}
use Rattle.tables.proofs.Groups.{order_inside}
use Rattle.tables.proofs.HMin.{h_min_facts, h_min_period, period_h_min, period_outside}
use Rattle.tables.proofs.KMin.{k_min_cases, k_min_unique, no_k_min_unique}
use Rattle.tables.proofs.Least.{least_facts, least_found, all_each, each_all, some_fails, pos_iff, outside_iff, outside_fails}
use Rattle.tables.proofs.Order.{Rank, last, second, third, rank_below, order_length, order_stands, order_at}
use Rattle.tables.proofs.Periods.{period_facts, period_le_r_min}
use Rattle.tables.proofs.RMin.{r_min_facts, r_min_period}
use Rattle.tables.proofs.Times.{Stands}
use Rattle.tables.specs.Facts.{InPos, HasPeriod, NoKMin, Refuted, by_agreed, by_differing, Kept, Unlike, LaterShift}
use Rattle.tables.specs.Least.{least_from, all_from}
use Rattle.tables.specs.Promises.{minima_shift, ShiftsNotShorter}
use Rattle.tables.specs.Sets.{byte, outside, Pos, Neg}
use Rattle.tables.specs.Tables.{h_min, k_min, r_min, period, order, h_at, Δ2}

-- h(x + 1) is the entry at x
pub entry_at : (w : List ℕ) (x : ℕ) → h_at w (suc x) ≡ get_or (order w) x 0
entry_at w x = let back : suc x - 1 ≡ x = omega arith in rw back

-- k is outside Neg(w(h(j)), h(j)), for all j up to i
abbrev keeps : (w : List ℕ) (k j : ℕ) → Bool
keeps w k j = let h = h_at w j in outside (Neg w (byte w h) (pos h)) k

abbrev keeps_agreed : (w : List ℕ) (i k : ℕ) → Bool
keeps_agreed w i k = all_from i 1 (keeps w k)

-- k is outside Pos(w(h(i + 1)), h(i + 1)), where i is below m
abbrev moves : (w : List ℕ) (i k : ℕ) → Bool
moves w i k = let h = get_or (order w) i 0 in ltb (length w) (suc i) || outside (Pos w (byte w h) (pos h)) k

abbrev passes : (w : List ℕ) (i k : ℕ) → Bool
passes w i k = keeps_agreed w i k && moves w i k

module _ (w : List ℕ) (i k : ℕ) where
  kept : keeps_agreed w i k ≡ true → Kept w i k
  kept e x l =
      let h = get_or (order w) x 0 in
      (outside_iff w (byte w h) h k).0 (rw (entry_at w x) at (all_each i 1 (keeps w k) e (suc x) (omega arith) (omega arith)))

  unlike : moves w i k ≡ true → Unlike w i k
  unlike e l n =
      let h = get_or (order w) i 0 in
      clash _ ((pos_iff w (byte w h) h k).1 n) (not-true _ (rw (le-ltb (length w) (suc i) l) at e))

  moved_onto : moves w i k ≡ false → (i < length w) × (let h = get_or (order w) i 0 in InPos w (byte w h) h k)
  moved_onto e =
      let h = get_or (order w) i 0 in
      ⊎_elim
      (λ b. (b, (pos_iff w (byte w h) h k).0 (not-false _ (rw (le-ltb (length w) (suc i) b) at e))))
      (λ b. absurd (clash (moves w i k) (rw (lt-ltb (length w) (suc i) b)) e))
      (le_or_lt (suc i) (length w))

  refuted_by : passes w i k ≡ false → Refuted w i k
  refuted_by e =
      ⊎_elim
      (λ q.
      let (j, l, u, f) = some_fails i 1 (keeps w k) q in
      let h = h_at w j in
      by_agreed (j - 1) (omega arith) (outside_fails w (byte w h) h k f))
      (λ q. let (b, n) = moved_onto q in by_differing b n)
      (and_fails (keeps_agreed w i k) (moves w i k) e)

module _ (w : List ℕ) (some : 1 ≤ length w) where
  -- the positions of the order are below m, so m passes
  below : (x : ℕ) → x < length w → get_or (order w) x 0 < length w
  below = order_inside w some

  m_passes : (i : ℕ) → i ≤ length w → passes w i (length w) ≡ true
  m_passes i u =
      let m = length w in
      let agreed : keeps_agreed w i m ≡ true =
      each_all i 1 _ (λ j l c. let h = h_at w j in (outside_iff w (byte w h) h m).1 (λ b. absurd (omega (arith, below (j - 1) (omega arith))))) in
      let differing : moves w i m ≡ true =
      ⊎_elim (λ e. e) (λ e. let (b, n) = moved_onto w i m e in absurd (omega (arith, n.0, below i b))) (true_or_false (moves w i m)) in
      rw (agreed, differing)

  least_passes : (i : ℕ) → Δ2 w (suc i) ≡ least_from (length w) 1 (passes w i)
  unfolding Δ2
  least_passes i = let back : suc i - 1 ≡ i = omega arith in rw back

  pub Δ2_facts : (i : ℕ) → i ≤ length w → LaterShift w i (Δ2 w (suc i))
  Δ2_facts i u =
      let m = length w in
      let value = least_facts m 1 (passes w i) in
      let (within, passed) = least_found m 1 (passes w i) m some (omega arith) (m_passes i u) in
      let (agreed, differing) = (and-eq-true_iff (keeps_agreed w i _) (moves w i _)).0 passed in
      rw (least_passes i)
      (record {
        positive = value.low;
        within = within;
        outside_agreed = kept w i _ agreed;
        outside_differing = unlike w i _ differing;
        least = λ j l c. refuted_by w i j (value.before j l c);
      })

  -- a shift that meets the facts is not refuted
  not_refuted : {i k : ℕ} → LaterShift w i k → Refuted w i k → ⊥
  not_refuted r (by_agreed x l n) = n.1 (r.outside_agreed x l n.0)
  not_refuted r (by_differing l n) = r.outside_differing l n

  -- so it is at least each number below which all are refuted
  at_least : {i k v : ℕ} → LaterShift w i k → ((j : ℕ) → 1 ≤ j → j < v → Refuted w i j) → v ≤ k
  at_least {i} {k} {v} r all = let not_below : ¬ (k < v) = λ q. not_refuted r (all k r.positive q) in omega arith

  pub Δ2_is : {i k : ℕ} → i ≤ length w → LaterShift w i k → Δ2 w (suc i) ≡ k
  Δ2_is {i} u r = let f = Δ2_facts i u in omega (arith, at_least f r.least, at_least r f.least)

  -- the least of those that keep what agreed and are not moved onto what differed is Δ2
  Δ2_least :
      {i k : ℕ} → i ≤ length w → 1 ≤ k → k ≤ length w → Kept w i k → Unlike w i k →
      ((j : ℕ) → 1 ≤ j → j < k → Kept w i j → Unlike w i j → ⊥) → Δ2 w (suc i) ≡ k
  Δ2_least {i} u l c keep move least =
      Δ2_is u
      (record {
        positive = l;
        within = c;
        outside_agreed = keep;
        outside_differing = move;
        least = λ j a b.
            ⊎_elim
            (λ e. let (agreed, differing) = (and-eq-true_iff (keeps_agreed w i j) (moves w i j)).0 e in absurd (least j a b (kept w i j agreed) (unlike w i j differing)))
            (refuted_by w i j)
            (true_or_false (passes w i j));
      })

  -- the positions of rank below a bound stand among the first i entries of the order
  abbrev Early : (i bound : ℕ) → Type 0
  Early i bound = (v g : ℕ) → v < bound → Rank w v g → Stands (order w) i g

  -- a shift below the bound is refuted by an entry that agreed, if not because it is a period
  refuted_below :
      {i bound : ℕ} → Early i bound → (j : ℕ) → 1 ≤ j → j < bound → j ≤ length w → (HasPeriod w j → Refuted w i j) → Refuted w i j
  refuted_below {i} early j l u v other =
      let g = h_min w j in
      let r = h_min_facts w j l v in
      let stands : j ≤ g → Stands (order w) i g = λ b.
      ⊎_elim (λ e. early 0 g (omega arith) (last refl e))
      (λ c.
      ⊎_elim (λ n. absurd (n.1 j l b refl))
      (λ k.
      let not_above : ¬ (j < k_min w g) = λ q. k.least j l q refl in
      early (k_min w g) g (omega arith) (second c k))
      (k_min_cases w g r.high))
      (eq-or-lt_of_le r.high) in
      ⊎_elim
      (λ b. let (x, c, e) = stands b in by_agreed x c (rw e (r.least b)))
      (λ b. other (h_min_period w j l v (omega (arith, r.low))))
      (le_or_lt j g)

  -- a period that is at most the entry that differed is refuted by it
  period_refuted : (i j : ℕ) → i < length w → j ≤ get_or (order w) i 0 → HasPeriod w j → Refuted w i j
  period_refuted i j l q p = by_differing l (q, period_outside w j (get_or (order w) i 0) p (below i l) q)

  -- v is a shift below which all are refuted, and so long that the comparisons made, one of which differed, are at most twice as many
  record BoundedBy (i v : ℕ) : Type 0 where
    refuted : (j : ℕ) → 1 ≤ j → j < v → Refuted w i j
    few : suc i ≤ 2 * v

  -- the shift beside an entry, by the entry's rank
  beside :
      {i v : ℕ} → 1 ≤ i → i < length w → i ≤ min v (period w) + (v - suc (length w)) → Rank w v (get_or (order w) i 0) → Early i v →
      BoundedBy i (minima_shift w (get_or (order w) i 0))
  unfolding minima_shift
  beside some u late (last z e) early = absurd (omega arith)
  beside {i} {v = k} some u late (second e r) early =
      let h = get_or (order w) i 0 in
      rw (k_min_unique w h k r (omega arith), ne_eqb k 0 (omega (arith, r.positive)))
      (record {
        refuted = λ j a c. refuted_below early j a c (omega arith) (period_refuted i j u (omega arith));
        few = omega arith;
      })
  beside {i} some u late (third z e n) early =
      let h = get_or (order w) i 0 in
      let k = r_min w h in
      let r = r_min_facts w h (omega arith) in
      rw (no_k_min_unique w h n (omega arith))
      (record {
        refuted = λ j a c.
            refuted_below early j a (omega arith) (omega arith) λ p.
            let not_above : ¬ (h < j) = λ q. r.least j q c (period_h_min w j a (omega arith) p) in
            period_refuted i j u (omega arith) p;
        few = omega (arith, period_le_r_min w h k r);
      })

  bounded_by : (i : ℕ) → 1 ≤ i → i < length w → BoundedBy i (minima_shift w (get_or (order w) i 0))
  bounded_by i l u =
      let (v, late, rank, before) = order_at w some i (omega (arith, order_length w some)) in
      beside l u late rank before

  -- the comparisons made, one of which differed, are at most twice the shift
  pub later_shift_few : {i k : ℕ} → 1 ≤ i → i < length w → LaterShift w i k → suc i ≤ 2 * k
  later_shift_few {i} l u r = let b = bounded_by i l u in omega (arith, b.few, at_least r b.refuted)

  -- a period keeps what every entry shows
  period_kept : (i k : ℕ) → i ≤ length w → HasPeriod w k → Kept w i k
  period_kept i k u p x l = period_outside w k (get_or (order w) x 0) p (below x (omega arith))

  -- r_min(h) is allowed, and of the periods no smaller one is
  r_min_kept : (i : ℕ) → i < length w → let k = r_min w (get_or (order w) i 0) in Kept w i k × Unlike w i k
  r_min_kept i u =
      let h = get_or (order w) i 0 in
      let r = r_min_facts w h (below i u) in
      (period_kept i (r_min w h) (omega arith) (r_min_period w h (r_min w h) r), λ _ s. omega (arith, r.above))

  smaller_period : (i j : ℕ) → i < length w → 1 ≤ j → j < r_min w (get_or (order w) i 0) → HasPeriod w j → Unlike w i j → ⊥
  smaller_period i j u l c p move =
      let h = get_or (order w) i 0 in
      let r = r_min_facts w h (below i u) in
      ⊎_elim
      (λ b. move u (b, period_outside w j h p (below i u) b))
      (λ b. r.least j b c (period_h_min w j l (omega arith) p))
      (le_or_lt j h)

  -- Δ2 is the smaller of r_min(h) and of r, the least that is allowed of the numbers up to r that are no period, or r itself
  pub Δ2_smaller :
      {i r : ℕ} → i < length w → 1 ≤ r → r ≤ length w → Kept w i r → Unlike w i r →
      ((j : ℕ) → 1 ≤ j → j < r → ¬ (HasPeriod w j) → Kept w i j → Unlike w i j → ⊥) →
      (v : ℕ) → (let upper = r_min w (get_or (order w) i 0) in ((r < upper) × (v ≡ r)) ⊎ ((upper ≤ r) × (v ≡ upper))) → v ≡ Δ2 w (suc i)
  Δ2_smaller {i} {r} u l c keep move least v =
      ⊎_elim
      (λ (b, e). e ∙ sym (Δ2_least (omega arith) l c keep move (λ j a d. none j a d (omega arith))))
      (λ (b, e).
      let (kept_by, moved_by) = r_min_kept i u in
      let f = r_min_facts w (get_or (order w) i 0) (below i u) in
      e ∙ sym (Δ2_least (omega arith) (omega (arith, f.above)) f.within kept_by moved_by (λ j a d. none j a (omega arith) d)))
    where
      none : (j : ℕ) → 1 ≤ j → j < r → j < r_min w (get_or (order w) i 0) → Kept w i j → Unlike w i j → ⊥
      none j a b d keep_j move_j =
          ⊎_elim
          (λ q. least j a b (λ p. omega (arith, period_h_min w j a (omega arith) p)) keep_j move_j)
          (λ q. smaller_period i j u a d (h_min_period w j a (omega arith) (omega (arith, (h_min_facts w j a (omega arith)).low))) move_j)
          (le_or_lt j (h_min w j))

  -- in the third group it is r_min
  pub Δ2_third : (i : ℕ) → 1 ≤ i → i < length w → NoKMin w (get_or (order w) i 0) → Δ2 w (suc i) ≡ r_min w (get_or (order w) i 0)
  unfolding minima_shift
  Δ2_third i l u n =
      let h = get_or (order w) i 0 in
      let k = r_min w h in
      let r = r_min_facts w h (below i u) in
      let (kept_by, moved_by) = r_min_kept i u in
      Δ2_is (omega arith)
      (record {
        positive = omega (arith, r.above);
        within = r.within;
        outside_agreed = kept_by;
        outside_differing = moved_by;
        least = rw (no_k_min_unique w h n (below i u)) at (bounded_by i l u).refuted;
      })

  -- where all agreed it is the period
  pub Δ2_end : Δ2 w (suc (length w)) ≡ period w
  Δ2_end =
      let p = period_facts w some in
      let all : length (order w) ≡ length w = order_length w some in
      let early : Early (length w) (suc (length w)) = λ v g l r. rw all at (order_stands w some g (rank_below w r)) in
      Δ2_is (omega arith)
      (record {
        positive = p.positive;
        within = p.within;
        outside_agreed = period_kept (length w) (period w) (omega arith) p.value;
        outside_differing = λ l. absurd (omega arith);
        least = λ j a c. refuted_below early j a (omega arith) (omega arith) (λ t. absurd (p.least j a c t));
      })

pub shifts_not_shorter : ShiftsNotShorter
unfolding ShiftsNotShorter
shifts_not_shorter w some =
    let end : length w + 1 ≡ suc (length w) = omega arith in
    record { beside_entry = beside_entry; at_end = rw end (Δ2_end w some) }
  where
    beside_entry : (i : ℕ) → 2 ≤ i → i ≤ length w → minima_shift w (h_at w i) ≤ Δ2 w i
    beside_entry zero l u = absurd (omega arith)
    beside_entry (suc x) l u = rw (entry_at w x) (at_least w some (Δ2_facts w some x (omega arith)) (bounded_by w some x (omega arith) u).refuted)
