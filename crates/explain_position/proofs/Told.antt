-- What the alignment that reaches a position tells of it: passed over, listed or tried.
-- By the laws of an explanation, from what the walk reaches.
use mathlib.Core.Bool.{true, false}
use mathlib.Core.List.{List}
use mathlib.Core.Logic.{◌≢◌}
use mathlib.Core.Path.{◌≡◌, sym, ◌∙◌, ap}
use Prim.Native.Nat.{ℕ, ◌<◌}
use native.Mathlib.Omega.{arith}
use borrow.Author.Tests.{eq-eqb, ne_eqb}
use lib.ListN.{length, get_or}
use Rattle.steps.proofs.Steps.{step_position, step_row, step_agreed, step_is_repeat}
use Rattle.steps.specs.Steps.{Alignment, row, is_occurrence}
use Rattle.steps.specs.Text.{shown, span}
use Rattle.alignment.proofs.Laying.{agreed_few}
use Rattle.alignment.specs.Laid.{alignment}
use Rattle.alignment.specs.Ready.{Taken}
use Rattle.explain_meaning.proofs.Meaning.{laid_listed, laid_tried, told_laid, told_past}
use Rattle.explain_meaning.specs.Explanation.{kind_by, explanation_in}
use Rattle.explain_answers.specs.declared.Explanation.TheVariants.{Listed, Tried, PassedOver}
use Rattle.explain_answers.specs.declared.ShiftKind.{ShiftKind}
use Rattle.explain_walk.specs.Reach.{ReachedAt}
use Rattle.explain_walk.specs.declared.Reached.{Reached}

-- what the alignment that reaches b tells
module _
    {w t : List ℕ} (taken : Taken w t) {b : ℕ} {r : Reached} (reached : ReachedAt w t b r) {count : ℕ}
    (count_is : count ≡ length (row w r.laid.repeat)) where
  abbrev here : Alignment
  here = alignment w t r.laid

  position_is : here.position ≡ r.laid.position
  position_is = step_position (shown t) w r.laid.position r.laid.shift r.laid.repeat

  row_is : here.row ≡ row w r.laid.repeat
  row_is = step_row (shown t) w r.laid.position r.laid.shift r.laid.repeat

  agreed_is : here.agreed ≡ r.agreed
  agreed_is = step_agreed (shown t) w r.laid.position r.laid.shift r.laid.repeat ∙ sym reached.ended.count

  whole : length here.row ≡ count
  whole = ap length row_is ∙ sym count_is

  -- all agree, or one differs
  occurring : r.agreed ≡ count → is_occurrence (here) ≡ true
  unfolding is_occurrence
  occurring e = eq-eqb here.agreed (length here.row) (agreed_is ∙ e ∙ sym whole)

  differing : r.agreed ≢ count → is_occurrence (here) ≡ false
  unfolding is_occurrence
  differing d = ne_eqb here.agreed (length here.row) (λ e. d (sym (agreed_is) ∙ e ∙ whole))

  -- where one differs, fewer agreed than the row has positions
  pub fewer : r.agreed ≢ count → r.agreed < length (row w r.laid.repeat)
  fewer d = omega (arith, agreed_few taken reached.ended, count_is)

  pub passed_over :
      r.laid.position < b → {kind : ShiftKind} → kind ≡ kind_by r.laid.repeat r.agreed count → PassedOver r.laid.position r.spoilt kind ≡ explanation_in b w t
  passed_over l told =
      let same = told ∙ λ i. kind_by (sym (step_is_repeat (shown t) w r.laid.position r.laid.shift r.laid.repeat) i) (sym (agreed_is) i) (sym whole i) in
      let past = told_past (shown t) (span w t) w taken.some b reached.made (omega (arith, position_is)) (omega (arith, position_is, reached.high)) in
      sym (past ∙ λ i. PassedOver (position_is i) (reached.spoilt_is l i) (sym same i))

  laid_there : (r.laid.position < b → ⊥) → here.position ≡ b
  laid_there l = omega (arith, position_is, reached.low)

  pub listed : (r.laid.position < b → ⊥) → r.agreed ≡ count → Listed ≡ explanation_in b w t
  listed l e =
      sym (told_laid (shown t) (span w t) w taken.some b reached.made (laid_there l)
      ∙ laid_listed (here) (occurring e))

  pub tried :
      (r.laid.position < b → ⊥) → r.agreed ≢ count → {i : ℕ} → i ≡ get_or (row w r.laid.repeat) r.agreed 0 → Tried i ≡ explanation_in b w t
  tried l d at =
      sym (told_laid (shown t) (span w t) w taken.some b reached.made (laid_there l)
      ∙ laid_tried (here) (differing d)
      ∙ rw (row_is, agreed_is, at))
