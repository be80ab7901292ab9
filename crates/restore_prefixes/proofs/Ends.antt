-- Prefixes that end at a position, as propositions: one byte more, a shorter one inside a longer one, the longest, which is the only one, and
-- those in a prefix that a byte follows. The longest by induction on the length up to which it is looked for; the others byte by byte.
use mathlib.Core.Bool.{Bool, true, false, cond, and-eq-true_iff}
use mathlib.Core.List.{List}
use mathlib.Core.Logic.{⊎_elim}
use mathlib.Core.Path.{◌≡◌, refl, sym, ◌∙◌, ap}
use Prim.Native.Nat.{ℕ, zero, suc, ◌+◌, ◌-◌, ◌≤◌, ◌<◌}
use native.Mathlib.Nat.{eq-or-lt_of_le, le_of_suc-le-suc, le_antisymm}
use native.Mathlib.Omega.{arith}
use borrow.Author.Tests.{leb-true, eqb-true, le-leb, eq-eqb, ne_eqb}
use lib.Dec.{leb, eqb}
use lib.ListN.{length}
use Rattle.tables.proofs.Cases.{clash}
use Rattle.tables.proofs.Least.{all_each, each_all}
use Rattle.tables.specs.Sets.{byte}
use Rattle.restore_prefixes.specs.Prefixes.{ends, longest_within, longest_prefix, followed}

-- the prefix of length k ends before x
pub record Ends (f : ℕ → ℕ) (w : List ℕ) (x k : ℕ) : Type 0 where
  pub inside : k ≤ x
  pub same : (j : ℕ) → j < k → f (x - k + j) ≡ byte w j

module _ (f : ℕ → ℕ) (w : List ℕ) where
  ends_is : (x k : ℕ) → ends f w x k ≡ true → Ends f w x k
  unfolding ends
  ends_is x k e =
      let (inside, all) = (and-eq-true_iff (leb k x) _).0 e in
      record {
        inside = leb-true k x inside;
        same = λ j l. eqb-true _ _ (all_each k 0 (λ j. eqb (f (x - k + j)) (byte w j)) all j (omega arith) (omega arith));
      }

  is_ends : (x k : ℕ) → Ends f w x k → ends f w x k ≡ true
  unfolding ends
  is_ends x k e =
      rw (le-leb k x e.inside)
      (each_all k 0 (λ j. eqb (f (x - k + j)) (byte w j)) (λ j i l. eq-eqb _ _ (e.same j (omega arith))))

  pub none_ends : (x : ℕ) → Ends f w x 0
  none_ends x = record { inside = omega arith; same = λ j l. absurd (omega arith) }

  -- a prefix ends after a byte just where it ends in that byte and the one shorter by it ends before it
  pub one_more : (x k : ℕ) → Ends f w x k → f x ≡ byte w k → Ends f w (suc x) (suc k)
  one_more x k e last = record {
    inside = omega (arith, e.inside);
    same = λ j l.
        ⊎_elim
        (λ h. let there : suc x - suc k + j ≡ x = omega (arith, e.inside) in rw there (last ∙ ap (byte w) (sym h)))
        (λ h. let there : suc x - suc k + j ≡ x - k + j = omega arith in rw there (e.same j h))
        (eq-or-lt_of_le (le_of_suc-le-suc l));
  }

  pub one_less : (x k : ℕ) → Ends f w (suc x) (suc k) → Ends f w x k × (f x ≡ byte w k)
  one_less x k e =
      let last : suc x - suc k + k ≡ x = omega (arith, e.inside) in (
        record {
          inside = omega (arith, e.inside);
          same = λ j l. let there : suc x - suc k + j ≡ x - k + j = omega arith in rw there at (e.same j (omega arith));
        },
        rw last at (e.same k (omega arith)),
      )

  -- where a prefix ends, a shorter one ends just where it ends at the end of the longer one
  module _ (x s : ℕ) (long : Ends f w x s) (k : ℕ) (short : k ≤ s) where
    there : (j : ℕ) → j < k → f (x - k + j) ≡ byte w (s - k + j)
    there j l =
        let here : x - k + j ≡ x - s + (s - k + j) = omega (arith, long.inside) in
        rw here (long.same (s - k + j) (omega arith))

    pub ends_within : Ends f w x k → Ends (byte w) w s k
    ends_within e = record { inside = short; same = λ j l. sym (there j l) ∙ e.same j l }

    pub within_ends : Ends (byte w) w s k → Ends f w x k
    within_ends e = record { inside = omega (arith, long.inside); same = λ j l. there j l ∙ e.same j l }

-- s is the length of the longest prefix of at most n bytes that ends before x
pub record Longest (n : ℕ) (f : ℕ → ℕ) (w : List ℕ) (x s : ℕ) : Type 0 where
  pub within : s ≤ n
  pub there : Ends f w x s
  pub none_longer : (k : ℕ) → k ≤ n → Ends f w x k → k ≤ s

module _ (f : ℕ → ℕ) (w : List ℕ) (x : ℕ) where
  pub within_facts : (n : ℕ) → Longest n f w x (longest_within n f w x)
  unfolding longest_within
  within_facts zero = record { within = omega arith; there = none_ends f w x; none_longer = λ k l e. l }
  within_facts (suc n) = go (ends f w x (suc n)) refl (within_facts n)
    where
      go :
          (z : Bool) → ends f w x (suc n) ≡ z → Longest n f w x (longest_within n f w x) →
          Longest (suc n) f w x (cond z (suc n) (longest_within n f w x))
      go true e r = record { within = omega arith; there = ends_is f w x (suc n) e; none_longer = λ k l h. l }
      go false e r = record {
        within = omega (arith, r.within);
        there = r.there;
        none_longer = λ k l h.
            ⊎_elim
            (λ same. absurd (clash _ (is_ends f w x (suc n) (rw same at h)) e))
            (λ less. r.none_longer k (le_of_suc-le-suc less) h)
            (eq-or-lt_of_le l);
      }

  pub longest_facts : Longest (length w) f w x (longest_prefix f w x)
  unfolding longest_prefix
  longest_facts = within_facts (length w)

  pub within_is : {n s : ℕ} → Longest n f w x s → longest_within n f w x ≡ s
  within_is {n} {s} l =
      let facts = within_facts n in
      le_antisymm (l.none_longer _ facts.within facts.there) (facts.none_longer s l.within l.there)

  pub longest_is : {s : ℕ} → Longest (length w) f w x s → longest_prefix f w x ≡ s
  unfolding longest_prefix
  longest_is l = within_is l

-- the text that is the first k bytes of the pattern and then a byte
module _ (w : List ℕ) (k c : ℕ) where
  first_byte : (x : ℕ) → x < k → followed w k c x ≡ byte w x
  first_byte x l = rw (ne_eqb x k (omega arith))

  pub last_byte : followed w k c k ≡ c
  last_byte = rw (eq-eqb k k refl)

  -- before the byte the same prefixes end as in the pattern
  pub pattern_ends : (j : ℕ) → Ends (byte w) w k j → Ends (followed w k c) w k j
  pattern_ends j e = record { inside = e.inside; same = λ i l. first_byte _ (omega (arith, e.inside)) ∙ e.same i l }

  pub ends_pattern : (j : ℕ) → Ends (followed w k c) w k j → Ends (byte w) w k j
  ends_pattern j e = record { inside = e.inside; same = λ i l. sym (first_byte _ (omega (arith, e.inside))) ∙ e.same i l }
