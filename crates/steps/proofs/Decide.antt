-- What a search compares decides it (`ComparisonsDecide`), and is inside (`LooksInside`). A step
-- reads only what it compares, entries of its row: by induction on the row; the run on the fuel.
use mathlib.Core.Bool.{Bool, false}
use mathlib.Core.List.{List, [], ◌∷◌, ◌++◌, map}
use mathlib.Core.Logic.{⊎_elim}
use mathlib.Core.Path.{◌≡◌, refl, sym, ◌∙◌, ap}
use Prim.Native.Nat.{ℕ, zero, suc, ◌+◌, ◌≤◌, ◌<◌}
use native.Mathlib.Omega.{arith}
use borrow.Author.Tests.{lt-leb, lt-ltb}
use lib.ListN.{length, get_or, take}
use Rattle.tables.proofs.Cases.{le_or_lt, eq_or_ne}
use Rattle.tables.specs.Sets.{byte}
use Rattle.steps.proofs.Occurrences.{occurrences_right}
use Rattle.steps.proofs.Rows.{row_first, row_some, row_below}
use Rattle.steps.proofs.Steps.{agreeing_none, agreeing_agrees, agreeing_differs, step_comparisons, step_determined, run_over, run_step}
use Rattle.steps.proofs.Text.{span_same, span_few}
use Rattle.steps.specs.Bound.{bound}
use Rattle.steps.specs.Occurrences.{occurs, occurrences_from, all_occurrences, occurrences}
use Rattle.steps.specs.Promises.{ComparisonsDecide, SameAt, OccurrencesRight, AllInside, LooksInside, LooksInRing, EmptyRing}
use Rattle.steps.specs.Steps.{Comparison, agreeing, row, step, repeat_after, alignments_from, alignments, compared, comparisons_of, comparisons, listed}
use Rattle.steps.specs.Text.{shown, span}

-- the comparisons at b of so many entries of a row
abbrev along : (b n : ℕ) → List ℕ → List Comparison
along b n row = map (λ i. record { pattern_position = i; text_position = b + i }) (take n row)

module _ (f g : ℕ → ℕ) where
  same_append : (xs ys : List Comparison) → SameAt (xs ++ ys) f g → SameAt xs f g × SameAt ys f g
  unfolding SameAt
  same_append [] ys h = (tt, h)
  same_append (x ∷ xs) ys h = let later = same_append xs ys h.1 in ((h.0, later.0), later.1)

  agreeing_same :
      (w : List ℕ) (b : ℕ) (row : List ℕ) → SameAt (along b (suc (agreeing f w b row)) row) f g →
      agreeing g w b row ≡ agreeing f w b row
  unfolding SameAt
  agreeing_same w b [] h = agreeing_none g w b ∙ sym (agreeing_none f w b)
  agreeing_same w b (i ∷ row) h =
      ⊎_elim
      (λ e.
      let counted = agreeing_agrees f w b i row e in
      agreeing_agrees g w b i row (e ∙ h.0) ∙ ap suc (agreeing_same w b row (rw counted at h.1)) ∙ sym counted)
      (λ d. agreeing_differs g w b i row (λ e. d (e ∙ sym h.0)) ∙ sym (agreeing_differs f w b i row d))
      (eq_or_ne (byte w i) (f (b + i)))

  -- the first entry of a row is compared
  first_same : (b n : ℕ) (row : List ℕ) → 1 ≤ length row → SameAt (along b (suc n) row) f g → f (b + get_or row 0 0) ≡ g (b + get_or row 0 0)
  unfolding SameAt
  first_same b n [] l h = absurd (omega arith)
  first_same b n (i ∷ row) l h = h.0

  module _ (w : List ℕ) (nonempty : 1 ≤ length w) where
    step_same :
        (b s : ℕ) (repeat : Bool) → SameAt (compared (step f w b s repeat)) f g → step g w b s repeat ≡ step f w b s repeat
    step_same b s repeat h =
        let here = rw (step_comparisons f w b s repeat) at h in
        let first = first_same b (agreeing f w b (row w repeat)) (row w repeat) (row_some w repeat nonempty) here in
        step_determined f w b s repeat g (agreeing_same w b (row w repeat) here) (sym (rw (row_first w repeat) at first))

    run_same :
        (N fuel b s : ℕ) (repeat : Bool) → SameAt (comparisons_of (alignments_from fuel f N w b s repeat)) f g →
        alignments_from fuel g N w b s repeat ≡ alignments_from fuel f N w b s repeat
    unfolding alignments_from comparisons_of
    run_same N zero b s repeat h = refl
    run_same N (suc fuel) b s repeat h =
        let here = step f w b s repeat in
        let k = here.shift in
        ⊎_elim
        (λ l.
        let first = run_step f w b s repeat fuel N l in
        let parts = same_append (compared here) _ (rw first at h) in
        let same = step_same b s repeat parts.0 in
        run_step g w b s repeat fuel N l ∙ rw (same, run_same N fuel (b + k) k (repeat_after w here) parts.1) (sym first))
        (λ l. run_over g w b s repeat (suc fuel) N l ∙ sym (run_over f w b s repeat (suc fuel) N l))
        (le_or_lt (b + length w) N)

pub comparisons_decide : ComparisonsDecide
unfolding ComparisonsDecide alignments
comparisons_decide f g N w h same = run_same f g w h N (suc N) 0 (length w) false same

-- and so two texts of one length have the same comparisons in the same order, and the same occurrences
pub same_texts :
    (w t u : List ℕ) → 1 ≤ length w → length u ≡ length t → SameAt (comparisons w t) (shown t) (shown u) →
    (comparisons w u ≡ comparisons w t) × (occurrences w u ≡ occurrences w t)
unfolding comparisons occurrences ComparisonsDecide OccurrencesRight
same_texts w t u h l same =
    let N = span w t in
    let decided = comparisons_decide (shown t) (shown u) N w h same in
    let found = sym (occurrences_right (shown u) N w h) ∙ ap listed decided ∙ occurrences_right (shown t) N w h in
    rw (span_same w t u l) (ap comparisons_of decided, found)

-- those of a row of positions below m are inside what is shown, and with them the later ones
inside_along :
    (m M b n : ℕ) (row : List ℕ) (later : List Comparison) → b + m ≤ M → ((x : ℕ) → x < length row → get_or row x 0 < m) →
    AllInside m M later → AllInside m M (along b n row ++ later)
unfolding AllInside
inside_along m M b zero row later l below rest = rest
inside_along m M b (suc n) [] later l below rest = rest
inside_along m M b (suc n) (i ∷ row) later l below rest =
    let first = below 0 (omega arith) in
    (first, omega arith, inside_along m M b n row later l (λ x u. below (suc x) (omega arith)) rest)

inside_run :
    (f : ℕ → ℕ) (N M : ℕ) (w : List ℕ) → 1 ≤ length w → N ≤ M → (fuel b s : ℕ) (repeat : Bool) →
    AllInside (length w) M (comparisons_of (alignments_from fuel f N w b s repeat))
unfolding alignments_from comparisons_of AllInside
inside_run f N M w h few zero b s repeat = tt
inside_run f N M w h few (suc fuel) b s repeat =
    let here = step f w b s repeat in
    let rest = alignments_from fuel f N w (b + here.shift) here.shift (repeat_after w here) in
    ⊎_elim
    (λ l.
    rw (run_step f w b s repeat fuel N l, step_comparisons f w b s repeat)
    (inside_along (length w) M b (suc (agreeing f w b (row w repeat))) (row w repeat) (comparisons_of rest) (omega arith) (row_below w repeat h)
    (inside_run f N M w h few fuel (b + here.shift) here.shift (repeat_after w here))))
    (λ l. rw (run_over f w b s repeat (suc fuel) N l) tt)
    (le_or_lt (b + length w) N)

pub looks_inside : LooksInside
unfolding LooksInside alignments
looks_inside f N w h = inside_run f N N w h (omega arith) (suc N) 0 (length w) false

pub looks_in_ring : LooksInRing
unfolding LooksInRing comparisons alignments
looks_in_ring w t h = inside_run (shown t) (span w t) _ w h (omega (arith, span_few w t h)) (suc (span w t)) 0 (length w) false

pub empty_ring : EmptyRing
unfolding EmptyRing occurrences all_occurrences occurrences_from occurs comparisons alignments alignments_from comparisons_of bound span
empty_ring w h = rw (lt-leb (0 + length w) 0 (omega arith), lt-ltb 0 (length w) h) (refl, refl, refl)
