-- The laws of the pattern as it is laid: it is laid right after each alignment, the alignments from it on begin with its own, and how it is laid after
-- one of which one comparison differs or all agree. By the ways in which a step ends.
use mathlib.Core.Bool.{true, false, ◌&&◌, true≢false, and-eq-true_iff}
use mathlib.Core.List.{List, [], ◌∷◌}
use mathlib.Core.Logic.{◌≢◌}
use mathlib.Core.Path.{◌≡◌, sym, ◌∙◌}
use Prim.Native.Nat.{ℕ, suc, ◌+◌, ◌*◌, ◌-◌, ◌≤◌, ◌<◌}
use native.Mathlib.Omega.{arith}
use borrow.Author.Tests.{eqb-true, eq-eqb, ne_eqb}
use lib.Dec.{leb, eqb}
use lib.ListN.{length}
use Rattle.tables.specs.Buffers.{PatternTaken}
use Rattle.tables.specs.Sets.{byte}
use Rattle.tables.specs.Tables.{Δ1, period, repeats}
use Rattle.steps.proofs.Fuel.{shift_positive, shift_within, run_on}
use Rattle.steps.proofs.Outcome.{occurrence_shift}
use Rattle.steps.proofs.Rows.{row_first, row_some, row_few, row_length}
use Rattle.steps.proofs.Steps.{agreeing_ends, agreeing_at_most, step_shift_first, step_repeat, run_over}
use Rattle.steps.proofs.Text.{shown_byte, span_reaches}
use Rattle.steps.specs.Steps.{agreeing, row, repeat_after}
use Rattle.steps.specs.Text.{shown, span}
use Rattle.alignment.specs.Laid.{laid_at, laid_first, LaidRight, ComparedSo, alignment, laid_after, remaining}
use Rattle.alignment.specs.Ready.{Taken}
use Rattle.alignment.specs.declared.Laid.{Laid}

-- the pattern of a job that is taken
pub pattern_taken : {w t : List ℕ} → Taken w t → PatternTaken w
pattern_taken taken = record { some = taken.some; few = taken.few }

module _ {w t : List ℕ} (taken : Taken w t) where
  pub first_right : LaidRight w (laid_first w)
  first_right = record { positive = taken.some; within = omega arith; repeated = λ e. absurd (true≢false (sym e)) }

  module _ (x : Laid) where
    -- the next is further on, and laid right
    pub further : {y : Laid} → y ≡ laid_after w t x → x.position < y.position
    further next = rw next (omega (arith, shift_positive (shown t) w x.position x.shift x.repeat taken.some))

    pub right_after : LaidRight w x → LaidRight w (laid_after w t x)
    right_after right =
        record {
          positive = shift_positive (shown t) w x.position x.shift x.repeat taken.some;
          within = shift_within (shown t) w x.position x.shift x.repeat taken.some right.positive right.within;
          repeated = λ e.
              let both = (and-eq-true_iff _ (repeats w)).0 (sym (step_repeat (shown t) w x.position x.shift x.repeat) ∙ e) in
              (both.1, occurrence_shift (shown t) w x.position x.shift taken.some x.repeat (eqb-true _ _ both.0));
        }

    -- the alignments from it on; past what is shown there are none
    pub remaining_on : x.position + length w ≤ span w t → remaining w t x ≡ alignment w t x ∷ remaining w t (laid_after w t x)
    remaining_on inside = run_on (shown t) (span w t) w taken.some x.position x.shift x.repeat inside

    pub remaining_over : span w t < x.position + length w → remaining w t x ≡ []
    remaining_over past = run_over (shown t) w x.position x.shift x.repeat (suc (span w t)) (span w t) past

  -- it has been compared
  module _ {x : Laid} {agreed : ℕ} (ended : ComparedSo w t x agreed) where
    pub agreed_few : agreed ≤ length (row w x.repeat)
    agreed_few = omega (arith, ended.count, agreeing_at_most (shown t) w x.position (row w x.repeat))

    pub agreed_small : agreed ≤ length w
    agreed_small = omega (arith, agreed_few, row_few w x.repeat taken.some)

    -- all agree
    module _ (all : agreed ≡ length (row w x.repeat)) where
      pub by_period : (alignment w t x).shift ≡ period w
      by_period = occurrence_shift (shown t) w x.position x.shift taken.some x.repeat (sym ended.count ∙ all)

      pub after_agreeing : laid_after w t x ≡ laid_at (x.position + period w) (period w) (repeats w)
      after_agreeing =
          let again : repeat_after w (alignment w t x) ≡ repeats w =
          step_repeat (shown t) w x.position x.shift x.repeat ∙ rw (← ended.count, eq-eqb agreed (length (row w x.repeat)) all) in
          λ i. laid_at (x.position + by_period i) (by_period i) (again i)

    -- one differs
    pub after_differing :
        {k : ℕ} → k ≡ (alignment w t x).shift → agreed < length (row w x.repeat) → laid_after w t x ≡ laid_at (x.position + k) k false
    after_differing shifted l =
        rw (
          shifted,
          step_repeat (shown t) w x.position x.shift x.repeat,
          ← ended.count,
          ne_eqb agreed (length (row w x.repeat)) (omega arith),
        )

  -- it ends inside the text, and its first comparison differs
  module _ (x : Laid) (inside : x.position + length w ≤ length t) (differs : byte t (x.position + (length w - 1)) ≢ byte w (length w - 1)) where
    pub none_agree : ComparedSo w t x 0
    none_agree =
        let seen = shown_byte t (x.position + (length w - 1)) (omega (arith, taken.some)) in
        let ends = agreeing_ends (shown t) w x.position (row w x.repeat) in
        let none : ¬ (1 ≤ agreeing (shown t) w x.position (row w x.repeat)) =
        λ l. differs (sym (rw (row_first w x.repeat, seen) at (ends.agree 0 l))) in
        record { inside = span_reaches w t taken.some x.position (omega (arith, taken.some)); count = omega arith }

    pub after_first : {k : ℕ} → k ≡ Δ1 w (shown t (x.position + (length w - 1))) x.shift → laid_after w t x ≡ laid_at (x.position + k) k false
    after_first shifted =
        after_differing none_agree
        (shifted ∙ sym (step_shift_first (shown t) w x.position x.shift x.repeat (sym none_agree.count)))
        (row_some w x.repeat taken.some)

  -- a repeat: it is laid after a shift by p, the pattern's period, and its row has p entries
  module _ {x : Laid} {p : ℕ} (right : LaidRight w x) (same : p ≡ period w) (repeat : x.repeat ≡ true) where
    pub as_repeat : x ≡ laid_at x.position p true
    as_repeat = let shifted = (right.repeated repeat).1 ∙ sym same in λ i. laid_at x.position (shifted i) (repeat i)

    pub repeat_row : length (row w x.repeat) ≡ p
    repeat_row = row_length w x.repeat taken.some ∙ rw repeat (sym same)

    pub repeat_compared : {agreed : ℕ} → ComparedSo w t x agreed → ComparedSo w t (laid_at x.position p true) agreed
    repeat_compared ended = rw as_repeat at ended

-- how the pattern is laid after an alignment, from its shift and how many of its row agreed
pub laid_so :
    (w t : List ℕ) (x : Laid) (k agreed count p : ℕ) → k ≡ (alignment w t x).shift → ComparedSo w t x agreed → count ≡ length (row w x.repeat) →
    p ≡ period w → laid_at (x.position + k) k (eqb agreed count && leb (3 * p) (length w)) ≡ laid_after w t x
unfolding repeats
laid_so w t x k agreed count p shifted ended whole same =
    rw (shifted, ended.count, whole, same, step_repeat (shown t) w x.position x.shift x.repeat)
