-- The steps list exactly the occurrences (`OccurrencesRight`), and which are repeats (`Known`).
-- A step tells whether its own position is one and passes over none; by induction on the fuel.
use mathlib.Core.Bool.{Bool, true, false, cond, true≢false, and-eq-true_iff}
use mathlib.Core.List.{List, [], ◌∷◌, ◌++◌}
use mathlib.Core.Logic.{◌⊎◌, ◌↔◌, inl, inr, ⊎_elim}
use mathlib.Core.Path.{◌≡◌, refl, sym, ◌∙◌}
use Prim.Native.Nat.{ℕ, zero, suc, ◌+◌, ◌*◌, ◌-◌, ◌≤◌, ◌<◌}
use native.Mathlib.Nat.{eq-or-lt_of_le, zero-add, add-zero, suc-add}
use native.Mathlib.Omega.{arith}
use borrow.Author.Tests.{eqb-true, leb-true, le-leb, lt-leb, eq-eqb, ne_eqb}
use lib.Dec.{leb, eqb}
use lib.ListN.{length}
use Rattle.tables.proofs.Cases.{true_or_false, le_or_lt, clash}
use Rattle.tables.proofs.Least.{all_each, each_all}
use Rattle.tables.proofs.RepeatRow.{period_positive, repeats_holds, repeats_is}
use Rattle.tables.specs.Sets.{byte}
use Rattle.tables.specs.Tables.{period, repeats}
use Rattle.steps.proofs.Outcome.{occurrence_shift}
use Rattle.steps.proofs.Rows.{row_below}
use Rattle.steps.proofs.Shift.{Carried, all_agree, carried_on, carried_first, passed_over}
use Rattle.steps.proofs.Steps.{Agrees, agreeing_ends, step_listed, step_repeat, run_over, run_step}
use Rattle.steps.proofs.Text.{span_few}
use Rattle.steps.specs.Occurrences.{occurs, occurrences_from, all_occurrences, occurrences}
use Rattle.steps.specs.Promises.{OccurrencesRight, Spoilt}
use Rattle.steps.specs.Steps.{Comparison, agreeing, row, step, repeat_after, alignments_from, alignments, compared, listed}
use Rattle.steps.specs.Text.{shown, span}

module _ (f : ℕ → ℕ) (N : ℕ) (w : List ℕ) where
  -- b is an occurrence just where it is inside the text and each pattern position agrees
  pub occurs_agrees : (b : ℕ) → occurs f N w b ≡ true → (g : ℕ) → g < length w → Agrees f w b g
  unfolding occurs
  occurs_agrees b e g l =
      sym (eqb-true _ _
      (all_each (length w) 0 (λ j. eqb (f (b + j)) (byte w j)) ((and-eq-true_iff (leb (b + length w) N) _).0 e).1 g (omega arith) (omega arith)))

  pub agrees_occurs : (b : ℕ) → b + length w ≤ N → ((g : ℕ) → g < length w → Agrees f w b g) → occurs f N w b ≡ true
  unfolding occurs
  agrees_occurs b l each =
      rw (le-leb _ _ l)
      (each_all (length w) 0 (λ j. eqb (f (b + j)) (byte w j)) (λ g i u. eq-eqb _ _ (sym (each g (omega arith)))))

  pub occurs_inside : (b : ℕ) → occurs f N w b ≡ true → b + length w ≤ N
  unfolding occurs
  occurs_inside b e = leb-true (b + length w) N ((and-eq-true_iff (leb (b + length w) N) _).0 e).0

  occurs_not : (b : ℕ) → (((g : ℕ) → g < length w → Agrees f w b g) → ⊥) → occurs f N w b ≡ false
  occurs_not b miss = ⊎_elim (λ e. absurd (miss (occurs_agrees b e))) (λ e. e) (true_or_false (occurs f N w b))

  -- there are no more occurrences than positions at which the pattern is shown whole
  few_from : (n b : ℕ) → length (occurrences_from n b f N w) ≤ suc N - (b + length w)
  unfolding occurrences_from
  few_from zero b = omega arith
  few_from (suc n) b =
      let later = few_from n (suc b) in
      ⊎_elim (λ e. rw e (omega (arith, occurs_inside b e))) (λ e. rw e (omega arith)) (true_or_false (occurs f N w b))

  -- a position that a comparison spoils is no occurrence
  spoilt_not : {made : List Comparison} (b : ℕ) → Spoilt f w made b → occurs f N w b ≡ false
  spoilt_not b h = occurs_not b (λ each. h.differs (sym (each h.j h.inside)))

  -- past the end there is none
  none_over : (n b : ℕ) → N < b + length w → occurrences_from n b f N w ≡ []
  unfolding occurrences_from occurs
  none_over zero b l = refl
  none_over (suc n) b l = rw (lt-leb (b + length w) N l) (none_over n (suc b) (omega arith))

  -- positions that are none are passed over
  skip :
      (k n b : ℕ) → ((j : ℕ) → b ≤ j → j < b + k → occurs f N w j ≡ false) →
      occurrences_from (k + n) b f N w ≡ occurrences_from n (b + k) f N w
  unfolding occurrences_from
  skip zero n b miss = rw (zero-add, add-zero)
  skip (suc k) n b miss =
      let there : suc b + k ≡ b + suc k = omega arith in
      rw (suc-add, miss b (omega arith) (omega arith), ← there) (skip k n (suc b) (λ j l u. miss j (omega arith) (omega arith)))

  -- the occurrences from b on, where those after b and before the next alignment are none
  next :
      (k n b : ℕ) → 1 ≤ k → ((j : ℕ) → b < j → j < b + k → occurs f N w j ≡ false) →
      let later = occurrences_from n (b + k) f N w in
      occurrences_from (k + n) b f N w ≡ cond (occurs f N w b) (b ∷ later) later
  unfolding occurrences_from
  next zero n b l miss = absurd (omega arith)
  next (suc k) n b l miss =
      let there : suc b + k ≡ b + suc k = omega arith in
      rw (suc-add, ← there, skip k n (suc b) (λ j l u. miss j l (omega arith)))

  -- what is known of the step at b: the occurrences before b are p before it or further, and it is
  -- a repeat just where m is at least 3 × p and one is p before it
  pub record Known (made : List Comparison) (b s : ℕ) (repeat : Bool) : Type 0 where
    pub carried : Carried f w made b s repeat
    pub apart : (c : ℕ) → c < b → occurs f N w c ≡ true → c + period w ≤ b
    pub tells : (repeat ≡ true) ↔ ((3 * period w ≤ length w) × (period w ≤ b) × (occurs f N w (b - period w) ≡ true))

  module _ (nonempty : 1 ≤ length w) where
    -- a step finds all agreeing just where its position is an occurrence
    pub step_tells :
        (made : List Comparison) (b s : ℕ) (repeat : Bool) → Carried f w made b s repeat → b + length w ≤ N →
        eqb (agreeing f w b (row w repeat)) (length (row w repeat)) ≡ occurs f N w b
    step_tells made b s repeat known l =
        let i = agreeing f w b (row w repeat) in
        let ends = agreeing_ends f w b (row w repeat) in
        ⊎_elim
        (λ e. eq-eqb i _ e ∙ sym (agrees_occurs b l (all_agree f w made b s repeat nonempty known e)))
        (λ u. ne_eqb i _ (omega arith) ∙ sym (occurs_not b (λ all. ends.differ u (all _ (row_below w repeat nonempty i u)))))
        (eq-or-lt_of_le ends.within)

    -- a position that it passes over is none
    passed_not :
        (made : List Comparison) (b s : ℕ) (repeat : Bool) → Carried f w made b s repeat →
        (c : ℕ) → b < c → c < b + (step f w b s repeat).shift → occurs f N w c ≡ false
    passed_not made b s repeat known c l u =
        let there : b + (c - b) ≡ c = omega arith in
        spoilt_not c (rw there at (passed_over f w made b s repeat nonempty known (c - b) (omega arith) (omega arith)))

    listed_right :
        (fuel : ℕ) (made : List Comparison) (b s : ℕ) (repeat : Bool) (n : ℕ) → N < b + fuel → N < b + n → Carried f w made b s repeat →
        listed (alignments_from fuel f N w b s repeat) ≡ occurrences_from n b f N w
    unfolding listed
    listed_right zero made b s repeat n l u known = rw (run_over f w b s repeat zero N (omega arith)) (sym (none_over n b (omega arith)))
    listed_right (suc fuel) made b s repeat n l u known =
        let here = step f w b s repeat in
        let k = here.shift in
        let kept = carried_on f w made b s repeat nonempty known in
        let later = listed_right fuel _ (b + k) k (repeat_after w here) (n - k) (omega arith) (omega arith) kept in
        ⊎_elim
        (λ v.
        let whole : k + (n - k) ≡ n = omega arith in
        let from_here = rw whole at (next k (n - k) b kept.positive (passed_not made b s repeat known)) in
        rw (run_step f w b s repeat fuel N v, step_listed f w b s repeat, step_tells made b s repeat known v, later) (sym from_here))
        (λ v. rw (run_over f w b s repeat (suc fuel) N v) (sym (none_over n b v)))
        (le_or_lt (b + length w) N)

    -- at the first step nothing is before, and a step keeps what is known
    pub known_first : Known [] 0 (length w) false
    known_first =
        record {
          carried = carried_first f w 0 nonempty;
          apart = λ c l e. absurd (omega arith);
          tells = (λ e. absurd (true≢false (sym e)), λ (long, l, e). absurd (omega (arith, period_positive w)));
        }

    pub known_on :
        (made : List Comparison) (b s : ℕ) (repeat : Bool) → Known made b s repeat → b + length w ≤ N → let here = step f w b s repeat in
        Known (made ++ compared here) (b + here.shift) here.shift (repeat_after w here)
    known_on made b s repeat known inside =
        let k = (step f w b s repeat).shift in
        let next = carried_on f w made b s repeat nonempty known.carried in
        let told = step_tells made b s repeat known.carried inside in
        let by_period : occurs f N w b ≡ true → k ≡ period w = λ e. occurrence_shift f w b s nonempty repeat (eqb-true _ _ (told ∙ e)) in
        let earlier : (c : ℕ) → c < b + k → occurs f N w c ≡ true → (c + period w ≤ b) ⊎ (b ≡ c) = λ c l e.
        ⊎_elim
        (λ u. ⊎_elim inr (λ v. absurd (clash _ e (passed_not made b s repeat known.carried c v l))) (eq-or-lt_of_le u))
        (λ u. inl (known.apart c u e))
        (le_or_lt b c) in
        record {
          carried = next;
          apart = λ c l e. ⊎_elim (λ u. omega arith) (λ q. omega (arith, by_period (rw q e))) (earlier c l e);
          tells = rw (step_repeat f w b s repeat, told) (
            λ e.
                let (occurring, repeating) = (and-eq-true_iff (occurs f N w b) (repeats w)).0 e in
                let there : b ≡ b + k - period w = omega (arith, by_period occurring) in
                (repeats_holds w repeating, omega (arith, by_period occurring), rw (← there) occurring),
            λ (long, l, e).
                ⊎_elim
                (λ u. absurd (omega arith))
                (λ q. (and-eq-true_iff (occurs f N w b) (repeats w)).1 (rw q e, repeats_is w long))
                (earlier (b + k - period w) (omega (arith, period_positive w)) e),
          );
        }

pub occurrences_right : OccurrencesRight
unfolding OccurrencesRight alignments all_occurrences
occurrences_right f N w h =
    listed_right f N w h (suc N) [] 0 (length w) false (suc N) (omega arith) (omega arith) (carried_first f w 0 h)

pub occurrences_few : (w t : List ℕ) → 1 ≤ length w → length (occurrences w t) ≤ length t
unfolding occurrences all_occurrences
occurrences_few w t h = omega (arith, few_from (shown t) (span w t) w (suc (span w t)) 0, span_few w t h)
