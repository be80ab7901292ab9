-- The laws of Δ3: what its value is, that the value is unique, where it is defined, and which entry stands at a place as it is stored.
-- m is outside all sets, so some number up to m passes Δ3's test, and Δ3(i) is the least; each smaller one is in one of the sets.
use mathlib.Core.Bool.{Bool, true, false, ◌&&◌, not, cond, and-eq-true_iff}
use mathlib.Core.List.{List}
use mathlib.Core.Logic.{◌⊎◌, inl, inr, ⊎_elim}
use mathlib.Core.Path.{◌≡◌, ap}
use Prim.Native.Nat.{ℕ, suc, ◌+◌, ◌-◌, ◌≤◌, ◌<◌}
use native.Mathlib.Omega.{arith}
use borrow.Author.Tests.{leb-true, le-leb, not-true, not-false}
use lib.Dec.{leb}
use lib.IntN.{pos}
use lib.ListN.{length, get_or}
use Rattle.tables.proofs.Cases.{true_or_false, clash, and_fails}
use Rattle.tables.proofs.Least.{least_facts, least_found, all_each, each_all, some_fails, pos_iff, outside_iff, outside_fails}
use Rattle.tables.proofs.RepeatRow.{repeats_holds, period_positive}
use Rattle.tables.proofs.Stored.{values_length, values_entry}
use Rattle.tables.specs.Facts.{InPos, InNeg, OutNeg, Known, RepeatShift}
use Rattle.tables.specs.Least.{all_from}
use Rattle.tables.specs.Sets.{byte, outside, Pos, Neg}
use Rattle.tables.specs.Tables.{period, repeats, Δ3, Δ3_defined, stored_Δ3}

-- k is outside Pos(w(i), i)
abbrev moves : (w : List ℕ) (i k : ℕ) → Bool
moves w i k = outside (Pos w (byte w i) (pos i)) k

-- k is outside Neg(w(g), g)
abbrev keeps : (w : List ℕ) (k g : ℕ) → Bool
keeps w k g = outside (Neg w (byte w g) (pos g)) k

-- k is outside Neg(w(g), g) for all g above i, and for all g below m - p
abbrev keeps_above : (w : List ℕ) (i k : ℕ) → Bool
keeps_above w i k = all_from (length w - suc i) (suc i) (keeps w k)

abbrev keeps_front : (w : List ℕ) (k : ℕ) → Bool
keeps_front w k = all_from (length w - period w) 0 (keeps w k)

abbrev passes : (w : List ℕ) (i k : ℕ) → Bool
passes w i k = moves w i k && keeps_above w i k && keeps_front w k

-- k is outside all sets, in one of them
abbrev pub Allowed : (w : List ℕ) (i k : ℕ) → Type 0
Allowed w i k = (InPos w (byte w i) i k → ⊥) × ((g : ℕ) → Known w i g → OutNeg w (byte w g) g k)

abbrev InASet : (w : List ℕ) (i k : ℕ) → Type 0
InASet w i k = InPos w (byte w i) i k ⊎ ((g : ℕ) × Known w i g × InNeg w (byte w g) g k)

allowed : (w : List ℕ) (i k : ℕ) → passes w i k ≡ true → Allowed w i k
allowed w i k e =
    let (both, front) = (and-eq-true_iff (moves w i k && keeps_above w i k) (keeps_front w k)).0 e in
    let (moved, above) = (and-eq-true_iff (moves w i k) (keeps_above w i k)).0 both in (
      λ h. clash _ ((pos_iff w (byte w i) i k).1 h) (not-true _ moved),
      λ g (u, known).
          (outside_iff w (byte w g) g k).0
          (⊎_elim (λ a. all_each _ _ _ above g a (omega arith)) (λ b. all_each _ _ _ front g (omega arith) (omega arith)) known),
    )

refuted : (w : List ℕ) (i k : ℕ) → passes w i k ≡ false → InASet w i k
refuted w i k e =
    ⊎_elim
    (λ both.
    ⊎_elim
    (λ q. inl ((pos_iff w (byte w i) i k).0 (not-false _ q)))
    (λ q. let (g, l, u, f) = some_fails _ _ _ q in inr (g, (omega arith, inl l), outside_fails w (byte w g) g k f))
    (and_fails (moves w i k) (keeps_above w i k) both))
    (λ q. let (g, l, u, f) = some_fails _ _ _ q in inr (g, (omega arith, inr (omega arith)), outside_fails w (byte w g) g k f))
    (and_fails (moves w i k && keeps_above w i k) (keeps_front w k) e)

-- m is outside all sets
m_passes : (w : List ℕ) (i : ℕ) → i < length w → passes w i (length w) ≡ true
m_passes w i b =
    let m = length w in
    let past : (n at : ℕ) → at + n ≤ m → all_from n at (keeps w m) ≡ true =
    λ n at h. each_all n at _ (λ g l u. (outside_iff w (byte w g) g m).1 (λ c. absurd (omega arith))) in
    let differs : moves w i m ≡ true =
    ⊎_elim (λ q. absurd (omega (arith, ((pos_iff w (byte w i) i m).0 q).0))) (λ q. ap not q) (true_or_false (Pos w (byte w i) (pos i) m)) in
    rw (differs, past (m - suc i) (suc i) (omega arith), past (m - period w) 0 (omega arith))

pub Δ3_facts : (w : List ℕ) (i : ℕ) → i < length w → RepeatShift w i (Δ3 w i)
unfolding Δ3
Δ3_facts w i b =
    let m = length w in
    let value = least_facts m 1 (passes w i) in
    let (within, passed) = least_found m 1 (passes w i) m (omega arith) (omega arith) (m_passes w i b) in
    let (differing, known) = allowed w i _ passed in
    record {
      positive = value.low;
      within = within;
      outside_differing = differing;
      outside_known = known;
      least = λ j l u. refuted w i j (value.before j l u);
    }

-- a number that meets the facts is not below another
not_below : (w : List ℕ) (i k k' : ℕ) → RepeatShift w i k → RepeatShift w i k' → ¬ (k < k')
not_below w i k k' r r' q =
    ⊎_elim r.outside_differing (λ (g, known, (l, differs)). differs (r.outside_known g known l)) (r'.least k r.positive q)

-- the number that meets the facts is Δ3(i)
pub Δ3_is : (w : List ℕ) (i k : ℕ) → i < length w → RepeatShift w i k → Δ3 w i ≡ k
Δ3_is w i k b r = let f = Δ3_facts w i b in omega (arith, not_below w i (Δ3 w i) k f r, not_below w i k (Δ3 w i) r f)

-- the least number outside all sets is Δ3(i)
pub Δ3_least :
    (w : List ℕ) (i k : ℕ) → i < length w → 1 ≤ k → k ≤ length w → Allowed w i k →
    ((j : ℕ) → 1 ≤ j → j < k → Allowed w i j → ⊥) → Δ3 w i ≡ k
Δ3_least w i k b l u (differing, known) least =
    Δ3_is w i k b
    (record {
      positive = l;
      within = u;
      outside_differing = differing;
      outside_known = known;
      least = λ j a c. ⊎_elim (λ e. absurd (least j a c (allowed w i j e))) (refuted w i j) (true_or_false (passes w i j));
    })

-- where it is defined
pub Δ3_defined_at : (w : List ℕ) (i : ℕ) → repeats w ≡ true → length w ≤ i + period w → i + 2 ≤ length w → Δ3_defined w i ≡ true
unfolding Δ3_defined
Δ3_defined_at w i e l u = rw (e, le-leb (length w - period w) i (omega arith), le-leb i (length w - 2) (omega arith))

pub Δ3_defined_bounds :
    (w : List ℕ) (i : ℕ) → Δ3_defined w i ≡ true → (repeats w ≡ true) × (length w ≤ i + period w) × (i + 2 ≤ length w)
unfolding Δ3_defined
Δ3_defined_bounds w i e =
    let (both, high) = (and-eq-true_iff (repeats w && leb (length w - period w) i) (leb i (length w - 2))).0 e in
    let (some, low) = (and-eq-true_iff (repeats w) (leb (length w - period w) i)).0 both in
    let long = repeats_holds w some in
    let l = leb-true (length w - period w) i low in
    let u = leb-true i (length w - 2) high in
    (some, omega arith, omega (arith, period_positive w))

-- the table as it is stored
pub stored_Δ3_length : (w : List ℕ) → length (stored_Δ3 w) ≡ length w
unfolding stored_Δ3
stored_Δ3_length w = values_length (length w) 0 _

pub stored_Δ3_entry : (w : List ℕ) (i : ℕ) → i < length w → get_or (stored_Δ3 w) i 0 ≡ cond (Δ3_defined w i) (Δ3 w i) 0
unfolding stored_Δ3
stored_Δ3_entry w i h =
    let from : 0 + i ≡ i = omega arith in
    rw from at (values_entry (length w) 0 i (λ j. cond (Δ3_defined w j) (Δ3 w j) 0) h)

pub stored_Δ3_defined : (w : List ℕ) (i : ℕ) → i < length w → Δ3_defined w i ≡ true → get_or (stored_Δ3 w) i 0 ≡ Δ3 w i
stored_Δ3_defined w i h e = rw e at (stored_Δ3_entry w i h)

pub stored_Δ3_none : (w : List ℕ) (i : ℕ) → i < length w → (Δ3_defined w i ≡ true → ⊥) → get_or (stored_Δ3 w) i 0 ≡ 0
stored_Δ3_none w i h not_so =
    ⊎_elim (λ e. absurd (not_so e)) (λ e. rw e at (stored_Δ3_entry w i h)) (true_or_false (Δ3_defined w i))
