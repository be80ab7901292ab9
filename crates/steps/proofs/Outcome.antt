-- How a step ends and with which shift (`step_outcome`), by the number of its row's entries that agreed.
-- Where none agreed it is Δ1 of the byte seen at the last position; else it is an entry of Δ2 or Δ3, of which that table's facts hold, or the period.
use mathlib.Core.Bool.{Bool, true, false, true≢false}
use mathlib.Core.List.{List}
use mathlib.Core.Logic.{⊎_elim}
use mathlib.Core.Path.{◌≡◌, refl, sym, ◌∙◌}
use Prim.Native.Nat.{ℕ, ◌+◌, ◌-◌, ◌≤◌, ◌<◌}
use native.Mathlib.Nat.{eq-or-lt_of_le}
use native.Mathlib.Omega.{arith}
use lib.ListN.{length, get_or}
use Rattle.tables.proofs.Cases.{le_or_lt}
use Rattle.tables.proofs.LaterShift.{Δ2_facts, Δ2_end}
use Rattle.tables.proofs.RepeatRow.{repeat_shifts_entry, repeat_shifts_end}
use Rattle.tables.proofs.RepeatShift.{Δ3_facts}
use Rattle.tables.proofs.Stored.{stored_Δ2_entry}
use Rattle.tables.specs.Facts.{LaterShift, RepeatShift}
use Rattle.tables.specs.Tables.{period, Δ1}
use Rattle.steps.proofs.Rows.{row_length, row_some}
use Rattle.steps.proofs.Steps.{agreeing_at_most, step_shift_first, step_shift_later}
use Rattle.steps.specs.Steps.{agreeing, row, shifts, step}

-- how an alignment with s the last shift ends: i entries of its row agreed, and k is the shift then taken
pub data Outcome (f : ℕ → ℕ) (w : List ℕ) (b s : ℕ) (repeat : Bool) (i k : ℕ) : Type 0 where
  none_agreed : i ≡ 0 → k ≡ Δ1 w (f (b + (length w - 1))) s → Outcome f w b s repeat i k
  order_differed : repeat ≡ false → 1 ≤ i → i < length w → LaterShift w i k → Outcome f w b s repeat i k
  repeat_differed : repeat ≡ true → 1 ≤ i → i < period w → RepeatShift w (length w - 1 - i) k → Outcome f w b s repeat i k
  all_agreed : i ≡ length (row w repeat) → k ≡ period w → Outcome f w b s repeat i k

module _ (f : ℕ → ℕ) (w : List ℕ) (b s : ℕ) (nonempty : 1 ≤ length w) where
  -- some entries agreed, and the shift is the one beside the row
  later :
      (repeat : Bool) (i : ℕ) → 1 ≤ i → i ≤ length (row w repeat) → Outcome f w b s repeat i (get_or (shifts w repeat) i 0)
  unfolding shifts
  later false i l u =
      let whole = row_length w false nonempty in
      let few : i ≤ length w = omega (arith, whole) in
      rw (stored_Δ2_entry w i l few)
      (⊎_elim
      (λ e. let end = e ∙ whole in all_agreed e (rw end (Δ2_end w nonempty)))
      (λ q. order_differed refl l (omega (arith, whole)) (Δ2_facts w nonempty i few))
      (eq-or-lt_of_le u))
  later true i l u =
      let whole = row_length w true nonempty in
      ⊎_elim
      (λ e. let end = e ∙ whole in all_agreed e (rw end (repeat_shifts_end w)))
      (λ q.
      let short : i < period w = omega (arith, whole) in
      repeat_differed refl l short (rw (repeat_shifts_entry w i l short) (Δ3_facts w (length w - 1 - i) (omega (arith, nonempty)))))
      (eq-or-lt_of_le u)

  pub step_outcome : (repeat : Bool) → Outcome f w b s repeat (agreeing f w b (row w repeat)) (step f w b s repeat).shift
  step_outcome repeat =
      let i = agreeing f w b (row w repeat) in
      ⊎_elim
      (λ l. rw (step_shift_later f w b s repeat l) (later repeat i l (agreeing_at_most f w b (row w repeat))))
      (λ z. none_agreed (omega arith) (step_shift_first f w b s repeat (omega arith)))
      (le_or_lt 1 i)

  -- after an occurrence the shift is the period
  pub occurrence_shift :
      (repeat : Bool) → agreeing f w b (row w repeat) ≡ length (row w repeat) → (step f w b s repeat).shift ≡ period w
  occurrence_shift repeat all = go repeat all (step_outcome repeat)
    where
      go : (repeat : Bool) {i k : ℕ} → i ≡ length (row w repeat) → Outcome f w b s repeat i k → k ≡ period w
      go repeat e (none_agreed z q) = absurd (omega (arith, row_some w repeat nonempty))
      go true e (order_differed r l u facts) = absurd (true≢false r)
      go false e (order_differed r l u facts) = absurd (omega (arith, row_length w false nonempty))
      go true e (repeat_differed r l u facts) = absurd (omega (arith, row_length w true nonempty))
      go false e (repeat_differed r l u facts) = absurd (true≢false (sym r))
      go repeat e (all_agreed z q) = q
