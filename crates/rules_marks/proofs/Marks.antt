-- Marking under way: the longest prefix that ends before the next byte that is read, and the marks
-- of the bytes before j. A rule claims byte j just where the prefix, extended, is its whole
-- pattern.
use mathlib.Core.Bool.{Bool, true, false, true≢false, ◌||◌}
use mathlib.Core.List.{List}
use mathlib.Core.Logic.{⊎_elim}
use mathlib.Core.Path.{◌≡◌, refl, sym, ◌∙◌}
use Prim.Native.Nat.{ℕ, suc, ◌+◌, ◌-◌, ◌≤◌, ◌<◌}
use native.Mathlib.Nat.{eq-or-lt_of_le, le_of_suc-le-suc}
use native.Mathlib.Omega.{arith}
use borrow.Author.Tests.{eq-eqb, ne_eqb}
use lib.Dec.{eqb}
use lib.ListN.{length, get_or, set, length-set}
use lib.Seq.{get_or-set_same, get_or-set_other}
use Rattle.ring.specs.Ring.{back}
use Rattle.restore_prefixes.proofs.Walk.{prefix_within, prefix_on}
use Rattle.restore_prefixes.specs.Prefixes.{longest_prefix, extended}
use Rattle.rules.specs.Rules.{Rule}
use Rattle.rules_marks.proofs.Walk.{claims_ends}
use Rattle.rules_claims.specs.Claims.{claims}
use Rattle.rules_marks.specs.Marks.{shown_from, Markable, Twice}

module _ (r : Rule) (t : List ℕ) (first : ℕ) (before : List Bool) where
  -- the ring from q before `first` on
  abbrev pub shows : ℕ → ℕ
  shows = shown_from t (back (length t) first r.hold_offset)

  pub record Marking (marks : List Bool) (prefix j : ℕ) : Type 0 where
    pub upto : j ≤ length before
    pub here : prefix ≡ longest_prefix shows r.pattern (length r.pattern - 1 + j)
    pub size : length marks ≡ length before
    pub entry : (k : ℕ) → k < j → get_or marks k false ≡ (claims r t (first + k) || get_or before k false)
    pub once : (k : ℕ) → k < j → get_or before k false ≡ true → claims r t (first + k) ≡ false
    pub rest : (k : ℕ) → j ≤ k → get_or marks k false ≡ get_or before k false

  pub marking_first :
      {prefix : ℕ} → prefix ≡ longest_prefix shows r.pattern (length r.pattern - 1) → Marking before prefix 0
  marking_first e =
      let none : length r.pattern - 1 + 0 ≡ length r.pattern - 1 = omega arith in
      record {
        upto = omega arith;
        here = rw none e;
        size = refl;
        entry = λ k l. absurd (omega arith);
        once = λ k l. absurd (omega arith);
        rest = λ k l. refl;
      }

  -- one byte on
  module _
      (some : 1 ≤ length r.pattern) (able : Markable t first (length before)) {marks : List Bool} {prefix j next c : ℕ}
      (u : Marking marks prefix j) (l : j < length before)
      (read : c ≡ shows (length r.pattern - 1 + j)) (grown : next ≡ extended r.pattern prefix c) where
    next_is : next ≡ longest_prefix shows r.pattern (suc (length r.pattern - 1 + j))
    next_is = prefix_on shows r.pattern _ prefix next c u.here read grown

    next_here : next ≡ longest_prefix shows r.pattern (length r.pattern - 1 + suc j)
    next_here =
        let there : length r.pattern - 1 + suc j ≡ suc (length r.pattern - 1 + j) = omega arith in
        rw there next_is

    -- the byte is claimed just where the whole pattern ends
    claimed_is : claims r t (first + j) ≡ eqb next (length r.pattern)
    claimed_is =
        let there : j + length r.pattern ≡ suc (length r.pattern - 1 + j) = omega arith in
        claims_ends r t first j some (omega (arith, able.inside)) ∙ rw (there, ← next_is)

    -- where the prefix has grown to the whole pattern the byte is claimed
    pub claimed : length r.pattern - 1 < next → claims r t (first + j) ≡ true
    claimed h = claimed_is ∙ eq-eqb next (length r.pattern) (omega (arith, prefix_within _ _ _ _ next_is))

    -- and where it has not, it is not
    unclaimed : next ≤ length r.pattern - 1 → claims r t (first + j) ≡ false
    unclaimed h = claimed_is ∙ ne_eqb next (length r.pattern) (λ e. omega arith)

    -- it is not claimed, and its mark stays
    pub marking_past : next ≤ length r.pattern - 1 → Marking marks next (suc j)
    marking_past h = record {
      upto = l;
      here = next_here;
      size = u.size;
      entry = λ k b.
          ⊎_elim
          (λ (e : k ≡ j). rw (e, unclaimed h) (u.rest j (omega arith)))
          (λ (less : k < j). u.entry k less)
          (eq-or-lt_of_le (le_of_suc-le-suc b));
      once = λ k b m.
          ⊎_elim
          (λ (e : k ≡ j). rw e (unclaimed h))
          (λ (less : k < j). u.once k less m)
          (eq-or-lt_of_le (le_of_suc-le-suc b));
      rest = λ k b. u.rest k (omega arith);
    }

    -- it is claimed and marked
    pub marking_on : length r.pattern - 1 < next → get_or marks j false ≡ false → Marking (set marks j true) next (suc j)
    marking_on h e =
        let inside : j < length marks = omega (arith, u.size) in
        let free : get_or before j false ≡ false = sym (u.rest j (omega arith)) ∙ e in
        record {
          upto = l;
          here = next_here;
          size = length-set marks j true ∙ u.size;
          entry = λ k b.
              ⊎_elim
              (λ (e : k ≡ j). rw (e, claimed h) (get_or-set_same marks j true false inside))
              (λ (less : k < j). get_or-set_other marks j k true false (λ e. omega arith) ∙ u.entry k less)
              (eq-or-lt_of_le (le_of_suc-le-suc b));
          once = λ k b m.
              ⊎_elim
              (λ (e : k ≡ j). absurd (true≢false (sym m ∙ rw e free)))
              (λ (less : k < j). u.once k less m)
              (eq-or-lt_of_le (le_of_suc-le-suc b));
          rest = λ k b. get_or-set_other marks j k true false (λ e. omega arith) ∙ u.rest k (omega arith);
        }

    -- it is claimed and was marked
    pub marking_found : length r.pattern - 1 < next → get_or marks j false ≡ true → Twice r t first before
    marking_found h e = record {
      place = j;
      inside = l;
      marked = sym (u.rest j (omega arith)) ∙ e;
      claimed = claimed h;
    }
