-- Some bytes of a ring under way: the rules before i that have a flag have marked those that they
-- claim, each once. A byte's mark is how many of these rules claim it (`flagged`), rule by rule.
use mathlib.Core.Bool.{Bool, true, false, true≢false, cond, ◌||◌}
use mathlib.Core.List.{List}
use mathlib.Core.Path.{◌≡◌, refl, sym, ◌∙◌, ap}
use Prim.Native.Nat.{ℕ, suc, ◌+◌, ◌≤◌, ◌<◌}
use native.Mathlib.Omega.{arith}
use lib.ListN.{length, get_or}
use Rattle.rules.specs.Rules.{count_of, rule_at, rules_of}
use Rattle.rules_marks.proofs.Flagged.{flagged_none, flagged_skipped, flagged_next, flagged_few, all_once}
use Rattle.rules_claims.proofs.Twice.{is_twice}
use Rattle.rules_claims.specs.Claims.{claimants, claimed_twice}
use Rattle.rules_marks.specs.Marks.{Skips, flagged, Marked, Twice}

-- a mark as a number
abbrev pub one : Bool → ℕ
one z = cond z 1 0

-- a byte that is claimed and was not marked has one mark more
one_more : (z b : Bool) → (b ≡ true → z ≡ false) → one (z || b) ≡ cond z (suc (one b)) (one b)
one_more true true h = absurd (true≢false (h refl))
one_more true false h = refl
one_more false b h = refl

at_most_one : (b : Bool) → one b ≤ 1
at_most_one true = omega arith
at_most_one false = omega arith

module _ (x : List ℕ) (flags : List Bool) (t : List ℕ) (first cards : ℕ) where
  pub record Blocked (marks : List Bool) (i : ℕ) : Type 0 where
    pub upto : i ≤ count_of x
    pub size : length marks ≡ cards
    pub entry : (k : ℕ) → k < cards → one (get_or marks k false) ≡ flagged x flags t (first + k) i

  -- before the first rule nothing is marked
  pub blocked_first :
      {marks : List Bool} → length marks ≡ cards → ((k : ℕ) → k < cards → get_or marks k false ≡ false) → Blocked marks 0
  blocked_first size unmarked = record {
    upto = omega arith;
    size = size;
    entry = λ k l. ap one (unmarked k l) ∙ sym (flagged_none t (first + k) x flags);
  }

  module _ {marks : List Bool} {i : ℕ} (b : Blocked marks i) where
    pub blocked_past : i < count_of x → get_or flags i false ≡ false → Blocked marks (suc i)
    blocked_past l e = record {
      upto = l;
      size = b.size;
      entry = λ k h. b.entry k h ∙ sym (flagged_skipped t (first + k) x flags i e);
    }

    -- a rule that has a flag is marked
    pub blocked_on :
        {after : List Bool} → i < count_of x → get_or flags i false ≡ true → Marked (rule_at x i) t first marks after →
        Blocked after (suc i)
    blocked_on l e m = record {
      upto = l;
      size = m.size ∙ b.size;
      entry = λ k h.
          let inside : k < length marks = rw b.size h in
          ap one (m.entry k inside)
          ∙ one_more _ _ (m.once k inside)
          ∙ rw (b.entry k h) (sym (flagged_next t (first + k) x flags i e));
    }

    pub blocked_twice :
        i < count_of x → get_or flags i false ≡ true → first + cards ≤ length t → Twice (rule_at x i) t first marks →
        claimed_twice (rules_of x) t ≡ true
    blocked_twice l e inside w =
        let k = w.place in
        let here : k < cards = rw b.size at w.inside in
        let two : flagged x flags t (first + k) (suc i) ≡ suc (flagged x flags t (first + k) i) =
        flagged_next t (first + k) x flags i e ∙ rw w.claimed in
        is_twice (rules_of x) t (first + k) (omega arith)
        (omega (arith, flagged_few t (first + k) x flags (suc i) l, two, ap one w.marked, b.entry k here))

    pub blocked_all :
        Skips x flags (count_of x) → first + cards ≤ length t → count_of x ≤ i → (k : ℕ) → k < cards →
        claimants (rules_of x) t (first + k) ≤ 1
    blocked_all skips inside l k h =
        let last : i ≡ count_of x = omega (arith, b.upto) in
        all_once t (first + k) x flags skips (omega arith)
        (omega (arith, at_most_one (get_or marks k false), rw last at (b.entry k h)))
