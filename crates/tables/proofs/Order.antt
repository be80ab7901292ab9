-- The order has each position once, by rising rank, and what stands before an entry; and the size of the order as it is stored.
-- The order is a run of ranks: m - 1 has rank 0, a position of the second group its k_min, and one of the third m + 1 more than itself.
use mathlib.Core.Bool.{Bool, true, false, ◌&&◌, cond, and-eq-true_iff}
use mathlib.Core.List.{List, ◌++◌}
use mathlib.Core.Logic.{◌≢◌, ⊎_elim}
use mathlib.Core.Path.{◌≡◌, refl, sym, ◌∙◌, ap}
use Prim.Native.Nat.{ℕ, zero, suc, ◌+◌, ◌-◌, ◌≤◌, ◌<◌, min}
use native.Mathlib.Nat.{eq-or-lt_of_le}
use native.Mathlib.Omega.{arith}
use borrow.Author.Tests.{ltb-true, eqb-true, eqb-false, lt-ltb, le-leb, lt-leb, eq-eqb, ne_eqb}
use lib.Dec.{ltb, leb, eqb}
use lib.ListN.{length, get_or, length-append, length-map}
use Rattle.tables.proofs.Cases.{clash}
use Rattle.tables.proofs.KMin.{k_min_cases, k_min_unique, no_k_min_unique}
use Rattle.tables.proofs.Periods.{period_facts, k_min_below_period}
use Rattle.tables.proofs.Runs.{Run, end, entry, run_append, run_if, run_never, run_once, run_entry, run_rises}
use Rattle.tables.proofs.Times.{Stands, times_stands, length_once}
use Rattle.tables.specs.Facts.{KMin, NoKMin}
use Rattle.tables.specs.Promises.{times, OrderWhole, Rising, ByRisingKMin}
use Rattle.tables.specs.Tables.{h_min, k_min, period, second_group_from, second_group, third_group_from, third_group, order, stored_order}

-- v is the rank of position h in the order: m - 1 comes first, then the second group by rising k_min, then the third by rising h
pub data Rank (w : List ℕ) (v h : ℕ) : Type 0 where
  last : v ≡ 0 → suc h ≡ length w → Rank w v h
  second : suc h < length w → KMin w h v → Rank w v h
  third : v ≡ suc (length w) + h → suc h < length w → NoKMin w h → Rank w v h

module _ (w : List ℕ) where
  pub rank_below : {v h : ℕ} → Rank w v h → h < length w
  rank_below (last z e) = omega arith
  rank_below (second b r) = omega arith
  rank_below (third z b n) = omega arith

  -- a position has one rank, and a rank one position
  rank_of : (h : ℕ) → ℕ
  rank_of h = cond (eqb (suc h) (length w)) 0 (cond (eqb (k_min w h) 0) (suc (length w) + h) (k_min w h))

  rank_is : {v h : ℕ} → Rank w v h → v ≡ rank_of h
  unfolding rank_of
  rank_is {v} {h} (last z e) = rw (eq-eqb (suc h) (length w) e) z
  rank_is {v} {h} (second b r) =
      rw (ne_eqb (suc h) (length w) (omega arith), k_min_unique w h v r (omega arith), ne_eqb v 0 (omega (arith, r.positive)))
  rank_is {v} {h} (third z b n) = rw (ne_eqb (suc h) (length w) (omega arith), no_k_min_unique w h n (omega arith)) z

  position_of : (v : ℕ) → ℕ
  position_of v = cond (eqb v 0) (length w - 1) (cond (leb v (length w)) (h_min w v) (v - suc (length w)))

  position_is : {v h : ℕ} → Rank w v h → h ≡ position_of v
  unfolding position_of
  position_is {v} {h} (last z e) = rw (eq-eqb v 0 z) (omega arith)
  position_is {v} {h} (second b r) =
      rw (ne_eqb v 0 (omega (arith, r.positive)), le-leb v (length w) (omega (arith, r.within))) (sym r.value)
  position_is {v} {h} (third z b n) = rw (ne_eqb v 0 (omega arith), lt-leb v (length w) (omega arith)) (omega arith)

-- the second group's test at k: h_min(k) is below m - 1, and k_min of it is k
abbrev pub in_second : (w : List ℕ) (k : ℕ) → Bool
in_second w k = ltb (h_min w k) (length w - 1) && eqb (k_min w (h_min w k)) k

second_run : (w : List ℕ) (n k : ℕ) → 1 ≤ k → k + n ≡ suc (length w) → Run (Rank w) (suc (length w)) k (second_group_from n k w)
unfolding second_group_from
second_run w zero k l u = let done : k ≡ suc (length w) = omega arith in rw done end
second_run w (suc n) k l u =
    run_if (h_min w k) (in_second w k) here never (omega arith) (second_run w n (suc k) (omega arith) (omega arith))
  where
    here : in_second w k ≡ true → Rank w k (h_min w k)
    here e =
        let h = h_min w k in
        let both = (and-eq-true_iff (ltb h (length w - 1)) (eqb (k_min w h) k)).0 e in
        let below = ltb-true h (length w - 1) both.0 in
        let at_k = eqb-true (k_min w h) k both.1 in
        second (omega arith) (⊎_elim (λ c. absurd (omega (arith, c.0))) (λ r. rw at_k at r) (k_min_cases w h (omega arith)))

    never : in_second w k ≡ false → (h : ℕ) → ¬ (Rank w k h)
    never e h (last z b) = omega arith
    never e h (second b r) =
        clash _ (rw (r.value, lt-ltb h (length w - 1) (omega arith), eq-eqb (k_min w h) k (k_min_unique w h k r (omega arith)))) e
    never e h (third z b n) = omega arith

-- the ranks are below 2 × m
abbrev ranks : (w : List ℕ) → ℕ
ranks w = length w + length w

third_run : (w : List ℕ) (n i v : ℕ) → suc (i + n) ≡ length w → v ≡ suc (length w) + i → Run (Rank w) (ranks w) v (third_group_from n i w)
unfolding third_group_from
third_run w zero i v u z = let done : v ≡ ranks w = omega arith in rw done end
third_run w (suc n) i v u z =
    run_if i (eqb (k_min w i) 0) (λ e. here (eqb-true _ _ e)) (λ e. never (eqb-false _ _ e)) (omega arith)
    (third_run w n (suc i) (suc v) (omega arith) (omega arith))
  where
    here : k_min w i ≡ 0 → Rank w v i
    here e = third z (omega arith) (⊎_elim (λ c. c.1) (λ r. absurd (omega (arith, r.positive))) (k_min_cases w i (omega arith)))

    never : k_min w i ≢ 0 → (h : ℕ) → ¬ (Rank w v h)
    never d h (last e b) = omega arith
    never d h (second b r) = omega (arith, r.within)
    never d h (third e b n) = let same : h ≡ i = omega arith in d (no_k_min_unique w i (rw same at n) (omega arith))

-- the groups and the order by rising rank
second_entries : (w : List ℕ) → Run (Rank w) (suc (length w)) 1 (second_group w)
unfolding second_group
second_entries w = second_run w (length w) 1 (omega arith) (omega arith)

third_entries : (w : List ℕ) → 1 ≤ length w → Run (Rank w) (ranks w) (suc (length w)) (third_group w)
unfolding third_group
third_entries w b = third_run w (length w - 1) 0 (suc (length w)) (omega arith) (omega arith)

both_entries : (w : List ℕ) → 1 ≤ length w → Run (Rank w) (ranks w) 1 (second_group w ++ third_group w)
both_entries w b = run_append (omega arith) (second_entries w) (third_entries w b)

order_entries : (w : List ℕ) → 1 ≤ length w → Run (Rank w) (ranks w) 0 (order w)
unfolding order
order_entries w b = entry (length w - 1) (last refl (omega arith)) (omega arith) (both_entries w b)

order_once : (w : List ℕ) (i : ℕ) → i < length w → times i (order w) ≡ 1
order_once w i u =
    ⊎_elim (λ e. once 0 (last refl e) (omega arith))
    (λ b.
    ⊎_elim (λ c. once (suc (length w) + i) (third refl b c.1) (omega arith)) (λ r. once (k_min w i) (second b r) (omega arith))
    (k_min_cases w i u))
    (eq-or-lt_of_le u)
  where
    once : (v : ℕ) → Rank w v i → v < ranks w → times i (order w) ≡ 1
    once v r l =
        run_once i v r (λ u t. rank_is w t ∙ sym (rank_is w r)) (λ h t. position_is w t ∙ sym (position_is w r))
        (order_entries w (omega arith)) (omega arith) l

pub order_whole : OrderWhole
unfolding OrderWhole
order_whole w b =
    let once = order_once w in
    (length_once (length w) (order w) once (λ i u. run_never i (order_entries w b) (λ v l r. omega (arith, rank_below w r))), once)

pub order_length : (w : List ℕ) → 1 ≤ length w → length (order w) ≡ length w
unfolding OrderWhole
order_length w b = (order_whole w b).0

-- each position stands in it
pub order_stands : (w : List ℕ) → 1 ≤ length w → (i : ℕ) → i < length w → Stands (order w) (length (order w)) i
order_stands w b i u = times_stands i (order w) (omega (arith, order_once w i u))

-- along it the ranks rise
order_rises : (w : List ℕ) → 1 ≤ length w → Rising (rank_of w) (order w)
order_rises w b i j c l =
    let (u, v, from, rises, past, here, there) = run_rises (order_entries w b) i j c l in
    omega (arith, rank_is w here, rank_is w there)

-- so no two entries are the same
pub order_distinct : (w : List ℕ) → 1 ≤ length w → (x y : ℕ) → x < y → y < length w → get_or (order w) x 0 ≢ get_or (order w) y 0
order_distinct w b x y l u e = omega (arith, order_rises w b x y l (omega (arith, order_length w b)), ap (rank_of w) e)

-- the rank of a position of the second group is its k_min, and of one of the third m + 1 + h
group_rank :
    (w : List ℕ) {v h : ℕ} → 1 ≤ v → Rank w v h →
    (h < length w - 1) × (v ≤ length w → k_min w h ≡ v) × (length w < v → (k_min w h ≡ 0) × (v ≡ suc (length w) + h))
group_rank w l (last z e) = absurd (omega arith)
group_rank w l (second b r) = (omega arith, λ c. k_min_unique w _ _ r (omega arith), λ c. absurd (omega (arith, r.within)))
group_rank w l (third z b n) = (omega arith, λ c. absurd (omega arith), λ c. (no_k_min_unique w _ n (omega arith), z))

-- after an entry of the third group there are only such
pub third_follows :
    (w : List ℕ) → 1 ≤ length w → (i : ℕ) → 1 ≤ i → suc i < length w → k_min w (get_or (order w) i 0) ≡ 0 → k_min w (get_or (order w) (suc i) 0) ≡ 0
unfolding order
third_follows w b zero l u none = absurd (omega arith)
third_follows w b (suc i) l u none =
    let (v, v', from, rises, upto, here, next) = run_rises (both_entries w b) i (suc i) (omega arith) (omega (arith, order_length w b)) in
    let late : ¬ (v ≤ length w) = λ c. omega (arith, (group_rank w from here).1 c) in
    ((group_rank w (omega arith) next).2 (omega arith)).0

pub by_rising_k_min : (w : List ℕ) → 1 ≤ length w → ByRisingKMin w
unfolding order
by_rising_k_min w some = record {
  groups = refl;
  second = λ i b.
      let (v, l, u, rank, rest) = run_entry (second_entries w) i b in
      ((group_rank w l rank).0, omega (arith, (group_rank w l rank).1 (omega arith)));
  second_rises = λ i j c b.
      let (u, v, l, rises, past, here, there) = run_rises (second_entries w) i j c b in
      omega (arith, (group_rank w l here).1 (omega arith), (group_rank w (omega arith) there).1 (omega arith));
  third = λ i b.
      let (v, l, u, rank, rest) = run_entry (third_entries w some) i b in
      let (below, is, later) = group_rank w (omega arith) rank in (below, (later l).0);
  third_rises = λ i j c b.
      let (u, v, l, rises, past, here, there) = run_rises (third_entries w some) i j c b in
      omega (arith, (group_rank w (omega arith) here).2 l, (group_rank w (omega arith) there).2 (omega arith));
}

-- the order's entry at i: its rank v has room for i before it, k_min being below the period, and the positions of smaller ranks stand there
pub order_at :
    (w : List ℕ) → 1 ≤ length w → (i : ℕ) → i < length (order w) →
    (v : ℕ) × (i ≤ min v (period w) + (v - suc (length w))) × Rank w v (get_or (order w) i 0)
    × ((u g : ℕ) → u < v → Rank w u g → Stands (order w) i g)
order_at w b i l =
    let (v, from, past, rank, rest) = run_entry (order_entries w b) i l in
    let is = rank_is w rank in (
      v,
      late i l rank,
      rank,
      λ u g c r.
          let (x, inside, e) = order_stands w b g (rank_below w r) in
          let same : rank_of w (get_or (order w) x 0) ≡ u = rw e (sym (rank_is w r)) in
          let not_here : x ≢ i = λ q. omega (arith, rw q at same) in
          let not_later : ¬ (i < x) = λ q. omega (arith, order_rises w b i x q inside) in
          (x, omega arith, e),
    )
  where
    room : ℕ → ℕ
    room v = min v (period w) + (v - suc (length w))

    wider : {u v h : ℕ} → Rank w u h → u < v → room u < room v
    wider (last z e) l = omega (arith, (period_facts w b).positive)
    wider (second e r) l = omega (arith, k_min_below_period w _ _ r (omega arith))
    wider (third z e n) l = omega arith

    late : (j : ℕ) → j < length (order w) → {v : ℕ} → Rank w v (get_or (order w) j 0) → j ≤ room v
    late zero h r = omega arith
    late (suc j) h r =
        let (u, v', from, rises, past, here, there) = run_rises (order_entries w b) j (suc j) (omega arith) h in
        omega (arith, late j (omega arith) here, wider here (rw (rank_is w there, ← rank_is w r) at rises))

-- the two groups have all positions but one
pub groups_length : (w : List ℕ) → 1 ≤ length w → length (second_group w) + length (third_group w) + 1 ≡ length w
unfolding order
groups_length w b = omega (arith, order_length w b, length-append (second_group w) (third_group w))

-- the order as it is stored
pub stored_order_length : (w : List ℕ) → 1 ≤ length w → length (stored_order w) ≡ length w + 1
unfolding stored_order
stored_order_length w b = simp (length-append, length-map) (omega (arith, order_length w b))
