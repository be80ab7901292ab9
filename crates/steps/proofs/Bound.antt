-- The count of comparisons keeps the bound (`FewComparisons`), over any text. By induction on the fuel: the comparisons from b on are at most twice
-- what is left of the text, what its occurrences add, and an allowance of m, or of 2 × p at a repeat, out of which shifts are long.
use mathlib.Core.Bool.{Bool, true, false, ◌&&◌, cond, true≢false, and-eq-true_iff}
use mathlib.Core.List.{List, [], ◌∷◌}
use mathlib.Core.Logic.{⊎_elim}
use mathlib.Core.Path.{◌≡◌, refl, sym, ◌∙◌, ap}
use Prim.Native.Nat.{ℕ, zero, suc, ◌+◌, ◌*◌, ◌-◌, ◌≤◌, ◌<◌, min}
use native.Mathlib.Nat.{suc-mul}
use native.Mathlib.Omega.{arith}
use borrow.Author.Tests.{lt-ltb, le-ltb, eqb-true, eq-eqb, ne_eqb}
use lib.Dec.{eqb}
use lib.ListN.{length}
use Rattle.tables.proofs.Cases.{true_or_false, le_or_lt, clash}
use Rattle.tables.proofs.FirstShift.{Δ1_facts}
use Rattle.tables.proofs.LaterShift.{later_shift_few}
use Rattle.tables.proofs.LongShifts.{repeat_shift_long, first_shift_long}
use Rattle.tables.proofs.Periods.{period_facts}
use Rattle.tables.proofs.RepeatRow.{repeats_holds}
use Rattle.tables.specs.Tables.{period, Δ1, repeats}
use Rattle.steps.proofs.Fuel.{shift_positive}
use Rattle.steps.proofs.Occurrences.{occurrences_right}
use Rattle.steps.proofs.Outcome.{Outcome, none_agreed, order_differed, repeat_differed, all_agreed, step_outcome, occurrence_shift}
use Rattle.steps.proofs.Rows.{row_length, row_first, row_some}
use Rattle.steps.proofs.Steps.{Ends, agreeing_ends, step_count, step_listed, step_repeat, run_over, run_step}
use Rattle.steps.specs.Bound.{bound}
use Rattle.steps.specs.Promises.{FewComparisons, OccurrencesRight}
use Rattle.steps.specs.Steps.{Alignment, agreeing, row, step, repeat_after, alignments_from, alignments, comparisons_of, listed}

-- no alignment has no comparisons, and one position more is listed, or none
no_comparisons : length (comparisons_of []) ≡ 0
unfolding comparisons_of
no_comparisons = refl

one_listed : (z : Bool) (b : ℕ) (xs : List ℕ) → length (cond z (b ∷ xs) xs) ≡ cond z (suc (length xs)) (length xs)
one_listed true b xs = refl
one_listed false b xs = refl

module _ (f : ℕ → ℕ) (w : List ℕ) (nonempty : 1 ≤ length w) where
  -- the comparisons that an occurrence may have beyond twice the shift
  abbrev extra : ℕ
  extra = cond (repeats w) 0 (length w - 2 * period w)

  -- the allowance where an alignment begins
  abbrev allowance : (repeat : Bool) → ℕ
  allowance repeat = cond repeat (2 * period w) (length w)

  -- a repeat comes after a shift by the period, in a pattern that repeats
  abbrev Begun : (s : ℕ) (repeat : Bool) → Type 0
  Begun s repeat = repeat ≡ true → (repeats w ≡ true) × (s ≡ period w)

  -- the comparisons of a step of which i agreed, and whether all did
  abbrev count : (repeat : Bool) (i : ℕ) → ℕ
  count repeat i = min (suc i) (length (row w repeat))

  abbrev ended : (repeat : Bool) (i : ℕ) → Bool
  ended repeat i = eqb i (length (row w repeat))

  -- a step of which i agreed, k its shift, has no more comparisons than twice the shift and its own allowance beyond the next one's give, with its
  -- occurrence, where `listed` occurrences come after it
  abbrev Covered : (repeat : Bool) (i k listed : ℕ) → Type 0
  Covered repeat i k listed =
      count repeat i + allowance (ended repeat i && repeats w) + listed * extra
      ≤ 2 * k + allowance repeat + cond (ended repeat i) (suc listed) listed * extra

  -- one differed: the next alignment is an ordinary one, with an allowance of m
  covered_differing :
      (repeat : Bool) (i k listed : ℕ) → i < length (row w repeat) → suc i + length w ≤ 2 * k + allowance repeat → Covered repeat i k listed
  covered_differing repeat i k listed l enough = rw (ne_eqb i (length (row w repeat)) (omega arith)) (omega arith)

  -- all agreed, and the shift is the period
  covered_agreeing : (s : ℕ) (repeat : Bool) (i listed : ℕ) → Begun s repeat → i ≡ length (row w repeat) → Covered repeat i (period w) listed
  covered_agreeing s repeat i listed begun e = rw (eq-eqb i (length (row w repeat)) e) (go repeat (repeats w) begun refl e)
    where
      whole : (repeat : Bool) → length (row w repeat) ≡ cond repeat (period w) (length w)
      whole repeat = row_length w repeat nonempty

      go :
          (repeat z : Bool) → Begun s repeat → repeats w ≡ z → i ≡ length (row w repeat) →
          count repeat i + allowance z + listed * cond z 0 (length w - 2 * period w)
          ≤ 2 * period w + allowance repeat + suc listed * cond z 0 (length w - 2 * period w)
      go true true begun r e = omega (arith, whole true)
      go true false begun r e = absurd (clash _ (begun refl).0 r)
      go false true begun r e = omega (arith, whole false)
      go false false begun r e = omega (arith, whole false, suc-mul listed (length w - 2 * period w))

  covered :
      (b s : ℕ) (repeat : Bool) → Begun s repeat → {i k : ℕ} → 1 ≤ k → Ends f w b (row w repeat) i → Outcome f w b s repeat i k →
      (listed : ℕ) → Covered repeat i k listed
  covered b s true begun {i} {k} positive ends (none_agreed z q) listed =
      let c = f (b + (length w - 1)) in
      let shifted = (begun refl).1 in
      let p = period_facts w nonempty in
      let facts = Δ1_facts w c (period w) p.positive p.within in
      let same : k ≡ Δ1 w c (period w) = rw shifted at q in
      let differs = rw (z, row_first w true) at (ends.differ (omega (arith, row_some w true nonempty))) in
      covered_differing true i k listed (omega (arith, row_some w true nonempty)) (omega (arith, first_shift_long w c _ facts differs))
  covered b s false begun {i} {k} positive ends (none_agreed z q) listed =
      covered_differing false i k listed (omega (arith, row_some w false nonempty)) (omega arith)
  covered b s true begun positive ends (order_differed r l u facts) listed = absurd (true≢false r)
  covered b s false begun {i} {k} positive ends (order_differed r l u facts) listed =
      covered_differing false i k listed (omega (arith, row_length w false nonempty)) (omega (arith, later_shift_few w nonempty l u facts))
  covered b s false begun positive ends (repeat_differed r l u facts) listed = absurd (true≢false (sym r))
  covered b s true begun {i} {k} positive ends (repeat_differed r l u facts) listed =
      let long = repeats_holds w (begun refl).0 in
      let far = repeat_shift_long w (length w - 1 - i) k (omega arith) (omega arith) facts in
      covered_differing true i k listed (omega (arith, row_length w true nonempty)) (omega arith)
  covered b s repeat begun {i} positive ends (all_agreed e q) listed = rw q (covered_agreeing s repeat i listed begun e)

  -- nothing remains
  over : (N b : ℕ) (repeat : Bool) → b + length w ≤ N + cond repeat (period w) 0 → 2 * b + 2 * length w ≤ 2 * N + allowance repeat
  over N b true l = omega arith
  over N b false l = omega arith

  -- a step has no more comparisons than its allowance
  count_within : (repeat : Bool) (i : ℕ) → count repeat i ≤ allowance repeat
  count_within true i = omega (arith, row_length w true nonempty)
  count_within false i = omega (arith, row_length w false nonempty)

  -- the comparisons from b on, where the alignment before it was inside the text
  abbrev Few : (N b : ℕ) (repeat : Bool) (left : List Alignment) → Type 0
  Few N b repeat left =
      length (comparisons_of left) + 2 * b + 2 * length w ≤ 2 * N + allowance repeat + length (listed left) * extra

  few_none : (N b : ℕ) (repeat : Bool) {left : List Alignment} → left ≡ [] → b + length w ≤ N + cond repeat (period w) 0 → Few N b repeat left
  unfolding comparisons_of listed
  few_none N b repeat e l = rw e (omega (arith, over N b repeat l))

  -- a step before the alignments that remain
  few_more :
      (N b s : ℕ) (repeat next : Bool) (later : List Alignment) → Begun s repeat → b + length w ≤ N →
      let i = agreeing f w b (row w repeat) in let k = (step f w b s repeat).shift in
      next ≡ ended repeat i && repeats w →
      (b + k + length w ≤ N + cond next (period w) 0 → Few N (b + k) next later) → (N < b + k + length w → later ≡ []) →
      Few N b repeat (step f w b s repeat ∷ later)
  few_more N b s repeat next later begun l e more none =
      let i = agreeing f w b (row w repeat) in
      let k = (step f w b s repeat).shift in
      let outcome = step_outcome f w b s nonempty repeat in
      let here = covered b s repeat begun (shift_positive f w b s repeat nonempty) (agreeing_ends f w b (row w repeat)) outcome (length (listed later)) in
      let owing = ap allowance e in
      rw (step_count f w b s repeat later, step_listed f w b s repeat later, one_listed (ended repeat i) b (listed later))
      (⊎_elim
      (λ u. omega (arith, more u))
      (λ u. let rest = none (omega arith) in rw (rest, no_comparisons) (omega (arith, count_within repeat i)))
      (le_or_lt (b + k + length w) (N + cond next (period w) 0)))

  few_from :
      (N fuel b s : ℕ) (repeat : Bool) → Begun s repeat → b + length w ≤ N + cond repeat (period w) 0 →
      Few N b repeat (alignments_from fuel f N w b s repeat)
  unfolding alignments_from
  few_from N zero b s repeat begun l = few_none N b repeat refl l
  few_from N (suc fuel) b s repeat begun l =
      let here = step f w b s repeat in
      let k = here.shift in
      let next = repeat_after w here in
      let e = step_repeat f w b s repeat in
      let shifted : Begun k next = λ q.
      let both = (and-eq-true_iff _ (repeats w)).0 (sym e ∙ q) in
      (both.1, occurrence_shift f w b s nonempty repeat (eqb-true _ _ both.0)) in
      ⊎_elim
      (λ v.
      rw (run_step f w b s repeat fuel N v)
      (few_more N b s repeat next (alignments_from fuel f N w (b + k) k next) begun v e (few_from N fuel (b + k) k next shifted)
      (run_over f w (b + k) k next fuel N)))
      (λ v. few_none N b repeat (run_over f w b s repeat (suc fuel) N v) l)
      (le_or_lt (b + length w) N)

pub few_comparisons : FewComparisons
unfolding FewComparisons OccurrencesRight alignments bound repeats
few_comparisons f N w h =
    ⊎_elim
    (λ l.
    let few = few_from f w h N (suc N) 0 (length w) false (λ e. absurd (true≢false (sym e))) (omega arith) in
    rw (le-ltb N (length w) l, ← occurrences_right f N w h)
    (⊎_elim (λ e. rw e (omega (arith, rw e at few))) (λ e. rw e (omega (arith, rw e at few))) (true_or_false (repeats w))))
    (λ l. rw (lt-ltb N (length w) l, run_over f w 0 (length w) false (suc N) N (omega arith), no_comparisons) (omega arith))
    (le_or_lt (length w) N)
