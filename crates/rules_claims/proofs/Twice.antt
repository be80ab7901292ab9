-- A byte is claimed twice just where two rules claim it (`TwiceRight`). Its claimants are counted
-- by induction on the rules, and the ring's bytes by the laws of a run of tests.
use mathlib.Core.Bool.{true, false}
use mathlib.Core.List.{List, [], ◌∷◌}
use mathlib.Core.Logic.{⊎_elim}
use mathlib.Core.Path.{◌≡◌}
use Prim.Native.Nat.{ℕ, zero, suc, ◌≤◌, ◌<◌}
use native.Mathlib.Nat.{le_of_suc-le-suc}
use native.Mathlib.Omega.{arith}
use borrow.Author.Tests.{not-true, not-false, leb-false, leb-true, le-leb}
use lib.Dec.{leb}
use lib.ListN.{length}
use Rattle.tables.proofs.Cases.{true_or_false, le_or_lt}
use Rattle.tables.proofs.Least.{all_each, each_all, some_fails}
use Rattle.rules.specs.Rules.{Rule, rule_of}
use Rattle.rules_claims.specs.Claims.{claims, claimants, claimed_twice}
use Rattle.rules_claims.specs.Promises.{TwiceRight}

module _ (t : List ℕ) (c : ℕ) where
  -- rule j of a list claims c
  pub record Claimant (rs : List Rule) (j : ℕ) : Type 0 where
    pub inside : j < length rs
    pub claimed : claims (rule_of rs j) t c ≡ true

  -- a claimant of the later rules is one of all rules, with the next number
  later : {r : Rule} {rs : List Rule} {j : ℕ} → Claimant rs j → Claimant (r ∷ rs) (suc j)
  later k = record { inside = omega (arith, k.inside); claimed = k.claimed }

  -- and back
  earlier : {r : Rule} {rs : List Rule} {j : ℕ} → Claimant (r ∷ rs) (suc j) → Claimant rs j
  earlier k = record { inside = omega (arith, k.inside); claimed = k.claimed }

  -- where there is a claimant it has a number
  one_claimant : (rs : List Rule) → 1 ≤ claimants rs t c → (j : ℕ) × Claimant rs j
  unfolding claimants
  one_claimant [] h = absurd (omega arith)
  one_claimant (r ∷ rs) h =
      ⊎_elim
      (λ y. (0, record { inside = omega arith; claimed = y }))
      (λ y. let (j, k) = one_claimant rs (rw y at h) in (suc j, later k))
      (true_or_false (claims r t c))

  -- and of two the one is before the other
  pub two_claimants :
      (rs : List Rule) → 2 ≤ claimants rs t c → (i : ℕ) × (j : ℕ) × (i < j) × Claimant rs i × Claimant rs j
  unfolding claimants
  two_claimants [] h = absurd (omega arith)
  two_claimants (r ∷ rs) h =
      ⊎_elim
      (λ y.
      let (j, k) = one_claimant rs (le_of_suc-le-suc (rw y at h)) in
      (0, suc j, omega arith, record { inside = omega arith; claimed = y }, later k))
      (λ y. let (i, j, l, k, k') = two_claimants rs (rw y at h) in (suc i, suc j, omega arith, later k, later k'))
      (true_or_false (claims r t c))

  -- those of the later rules are among all
  later_few : (r : Rule) (rs : List Rule) → claimants rs t c ≤ claimants (r ∷ rs) t c
  unfolding claimants
  later_few r rs =
      ⊎_elim (λ (y : claims r t c ≡ true). rw y (omega arith)) (λ (y : claims r t c ≡ false). rw y (omega arith))
      (true_or_false (claims r t c))

  -- a first rule that claims the byte counts once
  first_more : (r : Rule) (rs : List Rule) → claims r t c ≡ true → claimants (r ∷ rs) t c ≡ suc (claimants rs t c)
  unfolding claimants
  first_more r rs y = rw y

  -- a rule that claims c is counted
  pub counted : (rs : List Rule) (j : ℕ) → j < length rs → claims (rule_of rs j) t c ≡ true → 1 ≤ claimants rs t c
  counted [] j l y = absurd (omega arith)
  counted (r ∷ rs) zero l y = omega (arith, first_more r rs y)
  counted (r ∷ rs) (suc j) l y = omega (arith, later_few r rs, counted rs j (omega arith) y)

  -- two claimants count twice
  two_counted : (rs : List Rule) (i j : ℕ) → i < j → Claimant rs i → Claimant rs j → 2 ≤ claimants rs t c
  two_counted [] i j l k k' = absurd (omega (arith, k.inside))
  two_counted (r ∷ rs) i zero l k k' = absurd (omega arith)
  two_counted (r ∷ rs) zero (suc j) l k k' =
      let next = earlier k' in
      omega (arith, first_more r rs k.claimed, counted rs j next.inside next.claimed)
  two_counted (r ∷ rs) (suc i) (suc j) l k k' =
      omega (arith, later_few r rs, two_counted rs i j (omega arith) (earlier k) (earlier k'))

  -- where at most one claims c, it is the only one
  pub only :
      (rs : List Rule) → claimants rs t c ≤ 1 → (i j : ℕ) → i < length rs → j < length rs →
      claims (rule_of rs i) t c ≡ true → claims (rule_of rs j) t c ≡ true → i ≡ j
  only rs few i j l u y z =
      let k : Claimant rs i = record { inside = l; claimed = y } in
      let k' : Claimant rs j = record { inside = u; claimed = z } in
      ⊎_elim
      (λ h. ⊎_elim (λ g. omega arith) (λ less. absurd (omega (arith, two_counted rs i j less k k'))) (le_or_lt j i))
      (λ less. absurd (omega (arith, two_counted rs j i less k' k)))
      (le_or_lt i j)

module _ (rs : List Rule) (t : List ℕ) where
  -- 12 is not given just where each byte has at most one claimant
  pub once_each : claimed_twice rs t ≡ false → (c : ℕ) → c < length t → claimants rs t c ≤ 1
  unfolding claimed_twice
  once_each e c l =
      leb-true _ _ (all_each (length t) 0 (λ c. leb (claimants rs t c) 1) (not-false _ e) c (omega arith) (omega arith))

  -- and back: where no byte has two claimants, none is claimed twice
  pub each_once : ((c : ℕ) → c < length t → claimants rs t c ≤ 1) → claimed_twice rs t ≡ false
  unfolding claimed_twice
  each_once once =
      rw (each_all (length t) 0 (λ c. leb (claimants rs t c) 1) (λ c l u. le-leb _ 1 (once c (omega arith))))

  -- one byte that has two is enough
  pub is_twice : (c : ℕ) → c < length t → 2 ≤ claimants rs t c → claimed_twice rs t ≡ true
  is_twice c l more =
      ⊎_elim (λ e. e) (λ e. absurd (omega (arith, once_each e c l))) (true_or_false (claimed_twice rs t))

  -- and where 12 is given there is one
  twice_place : claimed_twice rs t ≡ true → (c : ℕ) × (c < length t) × (2 ≤ claimants rs t c)
  unfolding claimed_twice
  twice_place e =
      let (c, low, high, fails) = some_fails (length t) 0 (λ c. leb (claimants rs t c) 1) (not-true _ e) in
      (c, omega arith, leb-false (claimants rs t c) 1 fails)

pub twice_right : TwiceRight
unfolding TwiceRight
twice_right rs t = (
  λ e.
      let (c, l, more) = twice_place rs t e in
      let (i, j, u, k, k') = two_claimants t c rs more in
      record {
        place = c;
        first = i;
        second = j;
        below = l;
        different = u;
        inside = k'.inside;
        claimed = k.claimed;
        claimed_too = k'.claimed;
      },
  λ b.
      is_twice rs t b.place b.below
      (two_counted t b.place rs b.first b.second b.different
      record {
        inside = omega (arith, b.different, b.inside);
        claimed = b.claimed;
      } record { inside = b.inside; claimed = b.claimed_too }),
)
