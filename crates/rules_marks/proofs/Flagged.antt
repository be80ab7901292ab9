-- How many rules that have a flag claim a byte: no more than claim it of all, and where at most one
-- of them does, at most one of all does, since of two rules that claim it neither is skipped
-- (`met`).
use mathlib.Core.Bool.{Bool, true, false, cond}
use mathlib.Core.List.{List, []}
use mathlib.Core.Logic.{⊎_elim}
use mathlib.Core.Path.{◌≡◌, refl, ◌∙◌}
use Prim.Native.Nat.{ℕ, zero, suc, ◌+◌, ◌≤◌, ◌<◌}
use native.Mathlib.Nat.{eq-or-lt_of_le, le_of_suc-le-suc}
use native.Mathlib.Omega.{arith}
use lib.ListN.{length, get_or, drop}
use lib.Seq.{drop-cons}
use Rattle.tables.proofs.Cases.{true_or_false, clash, le_or_lt}
use Rattle.rules.proofs.Listed.{rules_counted, rule_listed}
use Rattle.rules.specs.Rules.{Rule, rule_of, count_of, rules_of, rule_at}
use Rattle.rules_claims.proofs.Twice.{two_claimants}
use Rattle.rules_claims.specs.Claims.{rule, claims, claimants}
use Rattle.rules_meet.proofs.Meeting.{met}
use Rattle.rules_marks.specs.Marks.{flagged, Skips}

module _ (t : List ℕ) (c : ℕ) where
  -- one rule more
  claimants_next :
      (rs : List Rule) (i : ℕ) → i < length rs →
      claimants (drop i rs) t c
      ≡ cond (claims (rule_of rs i) t c) (suc (claimants (drop (suc i) rs) t c)) (claimants (drop (suc i) rs) t c)
  unfolding claimants
  claimants_next rs i l = rw (drop-cons rs i (rule [] 0) l)

  module _ (x : List ℕ) (flags : List Bool) where
    -- those that have a flag and claim c: none before the first, and one rule more
    pub flagged_none : flagged x flags t c 0 ≡ 0
    unfolding flagged
    flagged_none = refl

    pub flagged_skipped : (i : ℕ) → get_or flags i false ≡ false → flagged x flags t c (suc i) ≡ flagged x flags t c i
    unfolding flagged
    flagged_skipped i e = rw e

    pub flagged_next :
        (i : ℕ) → (get_or flags i false ≡ true) →
        flagged x flags t c (suc i)
        ≡ cond (claims (rule_at x i) t c) (suc (flagged x flags t c i)) (flagged x flags t c i)
    unfolding flagged
    flagged_next i e = rw e

    -- where none has a flag there are none
    pub none_flagged : (i : ℕ) → ((k : ℕ) → k < i → get_or flags k false ≡ false) → flagged x flags t c i ≡ 0
    none_flagged zero h = flagged_none
    none_flagged (suc i) h = flagged_skipped i (h i (omega arith)) ∙ none_flagged i (λ k l. h k (omega arith))

    -- at most one more where rule i claims c, and else none
    few_more :
        (i : ℕ) →
        flagged x flags t c (suc i)
        ≤ cond (claims (rule_at x i) t c) (suc (flagged x flags t c i)) (flagged x flags t c i)
    few_more i =
        ⊎_elim
        (λ (e : get_or flags i false ≡ true). omega (arith, flagged_next i e))
        (λ (e : get_or flags i false ≡ false). ⊎_elim
        (λ (y : claims (rule_at x i) t c ≡ true). rw y (omega (arith, flagged_skipped i e)))
        (λ (y : claims (rule_at x i) t c ≡ false). rw y (omega (arith, flagged_skipped i e)))
        (true_or_false (claims (rule_at x i) t c)))
        (true_or_false (get_or flags i false))

    -- with those that come after them they are no more than all
    few :
        (i : ℕ) → i ≤ count_of x →
        flagged x flags t c i + claimants (drop i (rules_of x)) t c ≤ claimants (rules_of x) t c
    few zero l = omega (arith, flagged_none)
    few (suc i) l =
        let before = few i (omega arith) in
        let inside : i < length (rules_of x) = rw rules_counted l in
        let next = rw (rule_listed x i _ l) at (claimants_next (rules_of x) i inside) in
        ⊎_elim
        (λ (y : claims (rule_at x i) t c ≡ true). omega (arith, rw y at next, rw y at (few_more i)))
        (λ (y : claims (rule_at x i) t c ≡ false). omega (arith, rw y at next, rw y at (few_more i)))
        (true_or_false (claims (rule_at x i) t c))

    -- no more are counted than claim the byte
    pub flagged_few : (i : ℕ) → i ≤ count_of x → flagged x flags t c i ≤ claimants (rules_of x) t c
    flagged_few i l = omega (arith, few i l)

    -- rule i has a flag and claims c
    record Counts (i : ℕ) : Type 0 where
      flag : get_or flags i false ≡ true
      claimed : claims (rule_at x i) t c ≡ true

    grows : (i : ℕ) → flagged x flags t c i ≤ flagged x flags t c (suc i)
    grows i =
        ⊎_elim
        (λ e. ⊎_elim
        (λ y. omega (arith, rw y at (flagged_next i e)))
        (λ y. omega (arith, rw y at (flagged_next i e)))
        (true_or_false (claims (rule_at x i) t c)))
        (λ e. omega (arith, flagged_skipped i e))
        (true_or_false (get_or flags i false))

    counts_more : (i : ℕ) → Counts i → flagged x flags t c (suc i) ≡ suc (flagged x flags t c i)
    counts_more i k = rw k.claimed at (flagged_next i k.flag)

    -- a rule that counts is counted
    one_counts : (i k : ℕ) → Counts i → i < k → 1 ≤ flagged x flags t c k
    one_counts i zero h l = absurd (omega arith)
    one_counts i (suc k) h l =
        ⊎_elim
        (λ e. omega (arith, counts_more k (rw e at h)))
        (λ less. omega (arith, one_counts i k h less, grows k))
        (eq-or-lt_of_le (le_of_suc-le-suc l))

    -- and two are counted twice
    two_count : (i j k : ℕ) → Counts i → Counts j → i < j → j < k → 2 ≤ flagged x flags t c k
    two_count i j zero h h' l u = absurd (omega arith)
    two_count i j (suc k) h h' l u =
        ⊎_elim
        (λ e. omega (arith, counts_more k (rw e at h'), rw e at (one_counts i j h l)))
        (λ less. omega (arith, two_count i j k h h' l less, grows k))
        (eq-or-lt_of_le (le_of_suc-le-suc u))

    module _ (skips : Skips x flags (count_of x)) (below : c < length t) where
      -- a rule that claims a byte that another claims is not skipped
      not_skipped :
          (i j : ℕ) → i < count_of x → j < count_of x → (i ≡ j → ⊥) → claims (rule_at x i) t c ≡ true →
          claims (rule_at x j) t c ≡ true → Counts i
      not_skipped i j l u ne e e' = record {
        flag =
            ⊎_elim
            (λ y. y)
            (λ z. absurd (clash _ (met (rule_at x i) (rule_at x j) t c below e e') ((skips.apart i l z).apart j u ne)))
            (true_or_false (get_or flags i false));
        claimed = e;
      }

      -- so where at most one that has a flag claims c, at most one of all does
      pub all_once : flagged x flags t c (count_of x) ≤ 1 → claimants (rules_of x) t c ≤ 1
      all_once h =
          ⊎_elim
          (λ e. e)
          (λ more.
          let (i, j, l, k, k') = two_claimants t c (rules_of x) more in
          let (u, u') : (i < count_of x) × (j < count_of x) =
          (rw rules_counted at k.inside, rw rules_counted at k'.inside) in
          let (e, e') : (claims (rule_at x i) t c ≡ true) × (claims (rule_at x j) t c ≡ true) =
          (rw (rule_listed x i _ u) at k.claimed, rw (rule_listed x j _ u') at k'.claimed) in
          absurd (omega (
            arith,
            two_count i j (count_of x)
                (not_skipped i j u u' (λ z. omega arith) e e')
                (not_skipped j i u' u (λ z. omega arith) e' e) l u',
          )))
          (le_or_lt (claimants (rules_of x) t c) 1)
