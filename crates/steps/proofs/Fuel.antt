-- The fuel of the steps is never short (`FuelEnough`), so that a run with fuel for the whole text goes on by a step with as much (`run_on`): every
-- shift is from 1 to m, so each step brings the end nearer by as much as it burns. The shifts by the ways in which a step ends; the run by induction.
use mathlib.Core.Bool.{Bool}
use mathlib.Core.List.{List, ◌∷◌}
use mathlib.Core.Logic.{⊎_elim}
use mathlib.Core.Path.{◌≡◌, sym, ◌∙◌}
use Prim.Native.Nat.{ℕ, zero, suc, ◌+◌, ◌-◌, ◌≤◌, ◌<◌}
use native.Mathlib.Nat.{suc-add}
use native.Mathlib.Numerals.{add-one}
use native.Mathlib.Omega.{arith}
use lib.ListN.{length}
use Rattle.tables.proofs.Cases.{le_or_lt}
use Rattle.tables.proofs.FirstShift.{Δ1_facts, Δ1_positive}
use Rattle.tables.proofs.Periods.{period_facts}
use Rattle.tables.proofs.RepeatRow.{period_positive}
use Rattle.steps.proofs.Outcome.{Outcome, none_agreed, order_differed, repeat_differed, all_agreed, step_outcome}
use Rattle.steps.proofs.Steps.{run_over, run_step}
use Rattle.steps.specs.Promises.{FuelEnough, ends_at}
use Rattle.steps.specs.Steps.{step, repeat_after, alignments_from}

pub shift_positive : (f : ℕ → ℕ) (w : List ℕ) (b s : ℕ) (repeat : Bool) → 1 ≤ length w → 1 ≤ (step f w b s repeat).shift
shift_positive f w b s repeat h = go (step_outcome f w b s h repeat)
  where
    go : {i k : ℕ} → Outcome f w b s repeat i k → 1 ≤ k
    go (none_agreed z q) = omega (arith, Δ1_positive w (f (b + (length w - 1))) s)
    go (order_differed r l u facts) = facts.positive
    go (repeat_differed r l u facts) = facts.positive
    go (all_agreed e q) = omega (arith, period_positive w)

pub shift_within :
    (f : ℕ → ℕ) (w : List ℕ) (b s : ℕ) (repeat : Bool) → 1 ≤ length w → 1 ≤ s → s ≤ length w → (step f w b s repeat).shift ≤ length w
shift_within f w b s repeat h l u = go (step_outcome f w b s h repeat)
  where
    go : {i k : ℕ} → Outcome f w b s repeat i k → k ≤ length w
    go (none_agreed z q) = omega (arith, (Δ1_facts w (f (b + (length w - 1))) s l u).within)
    go (order_differed r a c facts) = facts.within
    go (repeat_differed r a c facts) = facts.within
    go (all_agreed e q) = omega (arith, (period_facts w h).within)

module _ (f : ℕ → ℕ) (N : ℕ) (w : List ℕ) (nonempty : 1 ≤ length w) where
  abbrev Enough : (fuel b s : ℕ) (repeat : Bool) → Type 0
  Enough fuel b s repeat =
      ((more : ℕ) → alignments_from (fuel + more) f N w b s repeat ≡ alignments_from fuel f N w b s repeat)
      × (N < ends_at b (alignments_from fuel f N w b s repeat) + length w)

  over : (fuel b s : ℕ) (repeat : Bool) → N < b + length w → Enough fuel b s repeat
  unfolding ends_at
  over fuel b s repeat l =
      let none = run_over f w b s repeat fuel N l in
      (λ more. run_over f w b s repeat (fuel + more) N l ∙ sym none, rw none l)

  enough : (fuel b s : ℕ) (repeat : Bool) → N < b + fuel → Enough fuel b s repeat
  unfolding ends_at
  enough zero b s repeat l = over zero b s repeat (omega arith)
  enough (suc fuel) b s repeat l =
      let here = step f w b s repeat in
      let k = here.shift in
      let later = enough fuel (b + k) k (repeat_after w here) (omega (arith, shift_positive f w b s repeat nonempty)) in
      ⊎_elim
      (λ u.
      let first = run_step f w b s repeat fuel N u in
      (λ more. rw (suc-add, run_step f w b s repeat (fuel + more) N u, first, later.0 more), rw first later.1))
      (over (suc fuel) b s repeat)
      (le_or_lt (b + length w) N)

  -- the alignments from b on, with fuel for the whole text: a step, and those from where it ends
  pub run_on :
      (b s : ℕ) (repeat : Bool) → b + length w ≤ N → let here = step f w b s repeat in
      alignments_from (suc N) f N w b s repeat
      ≡ here ∷ alignments_from (suc N) f N w (b + here.shift) here.shift (repeat_after w here)
  run_on b s repeat inside =
      let here = step f w b s repeat in
      let more = (enough N (b + here.shift) here.shift (repeat_after w here) (omega (arith, shift_positive f w b s repeat nonempty))).0 1 in
      run_step f w b s repeat N N inside ∙ rw (← (rw add-one at more))

pub fuel_enough : FuelEnough
unfolding FuelEnough
fuel_enough f N w h = enough f N w h
