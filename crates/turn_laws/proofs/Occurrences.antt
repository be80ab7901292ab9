-- The occurrences of a pattern and a text turned alike (`OccurrencesTurned`, `NumberTurned`): the positions that pass a test are turned where it is.
-- An occurrence turned is one of the job turned, byte by byte; and back again, since the same turn twice gives back what was drawn.
-- So is a period, which gives the period (`PeriodTurned`) and the bound (`BoundTurned`).
use mathlib.Core.Bool.{Bool, true, false, cond}
use mathlib.Core.List.{List}
use mathlib.Core.Logic.{⊎_elim}
use mathlib.Core.Path.{◌≡◌, refl, sym, ◌∙◌, ap}
use Prim.Native.Nat.{ℕ, ◌+◌, ◌-◌, ◌%◌, ◌≤◌, ◌<◌}
use native.Mathlib.Nat.{mod-lt}
use native.Mathlib.Omega.{arith}
use lib.ListN.{length}
use Rattle.answers.specs.Bytes.{Bytes}
use Rattle.tables.proofs.Cases.{true_or_false, le_or_lt}
use Rattle.tables.proofs.Periods.{period_facts}
use Rattle.tables.specs.Facts.{HasPeriod}
use Rattle.tables.specs.Least.{least_from}
use Rattle.tables.specs.Sets.{byte}
use Rattle.tables.specs.Tables.{period}
use Rattle.steps.proofs.Occurrences.{occurs_agrees, agrees_occurs}
use Rattle.steps.proofs.Steps.{Agrees}
use Rattle.steps.proofs.Text.{shown_at, span_reaches}
use Rattle.steps.specs.Occurrences.{occurrences}
use Rattle.steps.specs.Text.{shown, span}
use Rattle.ring.proofs.Ascending.{passing_same}
use Rattle.ring.proofs.Back.{same_test, other_end}
use Rattle.ring.proofs.Listed.{passing_moved, ascending_count}
use Rattle.ring.proofs.Occurrences.{occurs_in, occurrences_passing, occurrences_ascend}
use Rattle.ring.specs.Ring.{passing}
use Rattle.turn_mirror.specs.Mirrored.{mirrored}
use Rattle.turn.proofs.Turned.{mirrored_if, index_inside, length_turned, turned_entry, turned_twice}
use Rattle.turn.specs.Promises.{TurnedTwice}
use Rattle.turn.specs.Turned.{reverses, turned, turned_index}
use Rattle.turn_laws.proofs.Reversed.{reversed_inside, reversed_turn, reversed_twice, reversed_inverse}
use Rattle.turn_laws.specs.Promises.{reversed_position, turned_positions, OccurrencesTurned, NumberTurned, PeriodTurned, BoundTurned}

-- position b of a ring of n, turned, for a pattern of m
abbrev pub turned_position : (way m n b : ℕ) → ℕ
turned_position way m n b = cond (reverses way) (reversed_position m n b) b

-- the positions that pass, turned, are those that pass the test turned
passing_turned :
    (way m n : ℕ) (f g : ℕ → Bool) → ((b : ℕ) → b < n → g b ≡ f (turned_position way m n b)) →
    passing n 0 g ≡ turned_positions way m n (passing n 0 f)
unfolding turned_positions
passing_turned way m n f g same =
    ⊎_elim
    (λ e. rw e (passing_moved (reversed_inverse m n) g f (λ b l. rw e at (same b l))))
    (λ e. rw e (passing_same n 0 g f (λ b l h. rw e at (same b (omega arith)))))
    (true_or_false (reverses way))

-- the position turned is one of the ring, and turned again the position that it was
module _ (way m n b : ℕ) (h : b < n) where
  position_inside : turned_position way m n b < n
  position_inside = ⊎_elim (λ e. rw e (reversed_inside m n (omega arith) b)) (λ e. rw e h) (true_or_false (reverses way))

  position_twice : turned_position way m n (turned_position way m n b) ≡ b
  position_twice = ⊎_elim (λ e. rw e (reversed_twice m n (omega arith) b h)) (λ e. rw e) (true_or_false (reverses way))

-- byte j of the pattern at the position turned is byte j turned of the pattern at the position b
index_there :
    (way m n b j : ℕ) → 1 ≤ n → j < m → turned_index way n ((turned_position way m n b + j) % n) ≡ (b + turned_index way m j) % n
unfolding turned_index
index_there way m n b j some l =
    let b' = reversed_position m n b in
    let whole : b' + j + (b + (m - 1 - j)) + 1 ≡ b' + (m + b) = omega arith in
    ⊎_elim
    (λ e. rw e (other_end n some (b' + j) (b + (m - 1 - j)) (rw whole (reversed_turn m n some b))))
    (λ e. rw e)
    (true_or_false (reverses way))

module _ (way : ℕ) (w t : List ℕ) where
  abbrev m : ℕ
  m = length w

  abbrev n : ℕ
  n = length t

  -- position b of t, turned
  abbrev there : (b : ℕ) → ℕ
  there b = turned_position way m n b

  -- pattern position j of the job turned agrees where j turned does in the job
  agrees_turned :
      (b j : ℕ) → 1 ≤ n → j < m → Agrees (shown t) w b (turned_index way m j) → Agrees (shown (turned way t)) (turned way w) (there b) j
  agrees_turned b j some l same =
      let x = there b + j in
      turned_entry way w j l
      ∙ ap (mirrored_if mirrored way) (same ∙ shown_at t (b + turned_index way m j) ∙ ap (byte t) (sym (index_there way m n b j some l)))
      ∙ sym (shown_at (turned way t) x ∙ rw (length_turned way t) (turned_entry way t (x % n) (mod-lt x some)))

  -- an occurrence turned is one of the job turned
  occurs_turned : 1 ≤ m → (b : ℕ) → b < n → occurs_in w t b ≡ true → occurs_in (turned way w) (turned way t) (there b) ≡ true
  occurs_turned some b h e =
      let w' = turned way w in
      let t' = turned way t in
      let (size, size') : (length w' ≡ m) × (length t' ≡ n) = (length_turned way w, length_turned way t) in
      let inside = position_inside way m n b h in
      agrees_occurs (shown t') (span w' t') w' (there b) (span_reaches w' t' (omega arith) (there b) (omega arith))
      (λ j l.
      let l' : j < m = omega arith in
      agrees_turned b j (omega arith) l' (occurs_agrees (shown t) (span w t) w b e (turned_index way m j) (index_inside way m j l')))

-- a position is an occurrence of the job turned just where the position turned is one of the job
pub occurs_there :
    (way : ℕ) (w t : List ℕ) → 1 ≤ length w → Bytes w → Bytes t → (b : ℕ) → b < length t →
    occurs_in (turned way w) (turned way t) b ≡ occurs_in w t (turned_position way (length w) (length t) b)
unfolding TurnedTwice
occurs_there way w t some hw ht b h =
    let w' = turned way w in
    let t' = turned way t in
    let m = length w in
    let n = length t in
    let (size, size') : (length w' ≡ m) × (length t' ≡ n) = (length_turned way w, length_turned way t) in
    same_test _ _
    (λ e. rw (turned_twice way w hw, turned_twice way t ht, size, size') at (occurs_turned way w' t' (omega arith) b (omega arith) e))
    (λ e. rw (position_twice way m n b h) at (occurs_turned way w t some _ (position_inside way m n b h) e))

pub occurrences_turned : OccurrencesTurned
unfolding OccurrencesTurned
occurrences_turned way w t some hw ht =
    let w' = turned way w in
    let t' = turned way t in
    let size = length_turned way w in
    rw (occurrences_passing w' t' (omega arith), occurrences_passing w t some, length_turned way t)
    (passing_turned way (length w) (length t) (occurs_in w t) (occurs_in w' t') (occurs_there way w t some hw ht))

-- where F of both is the same, F of either is that of the second
pub same_either : (F : List ℕ → ℕ) (z : Bool) {x y : List ℕ} → F x ≡ F y → F (cond z x y) ≡ F y
same_either F true e = e
same_either F false e = refl

pub number_turned : NumberTurned
unfolding NumberTurned OccurrencesTurned turned_positions
number_turned way w t some hw ht =
    rw (occurrences_turned way w t some hw ht)
    (same_either length (reverses way) (ascending_count (reversed_inverse (length w) (length t)) 0 (occurrences w t) (occurrences_ascend w t some)))

-- a period of the pattern is one of the pattern turned
repeats_turned : (way : ℕ) (w : List ℕ) (p : ℕ) → HasPeriod w p → HasPeriod (turned way w) p
unfolding turned_index
repeats_turned way w p h i l =
    let inside : i + p < length w = rw length_turned at l in
    let (j, there) : (j : ℕ) × (j + p ≡ length w - 1 - i) = (length w - 1 - (i + p), omega arith) in
    let same : byte w (turned_index way (length w) i) ≡ byte w (turned_index way (length w) (i + p)) =
    ⊎_elim (λ e. rw (e, ← there, h j (omega arith))) (λ e. rw e (h i inside)) (true_or_false (reverses way)) in
    rw (turned_entry way w i (omega arith), turned_entry way w (i + p) inside, same)

-- so the period of the pattern turned is no longer
period_within : (way : ℕ) (w : List ℕ) → 1 ≤ length w → period (turned way w) ≤ period w
period_within way w some =
    let p = period_facts w some in
    let p' = period_facts (turned way w) (rw length_turned some) in
    let not_below : ¬ (period w < period (turned way w)) = λ l. p'.least (period w) p.positive l (repeats_turned way w (period w) p.value) in
    omega arith

pub period_turned : PeriodTurned
unfolding PeriodTurned TurnedTwice period least_from
period_turned way w h =
    let size = length_turned way w in
    ⊎_elim
    (λ some. omega (arith, period_within way w some, rw (turned_twice way w h) at (period_within way (turned way w) (omega arith))))
    (λ none. let short : length w - 1 ≡ 0 = omega arith in rw (size, short))
    (le_or_lt 1 (length w))

pub bound_turned : BoundTurned
unfolding BoundTurned PeriodTurned NumberTurned span
bound_turned way w t some hw ht = rw (number_turned way w t some hw ht, period_turned way w hw, length_turned way w, length_turned way t)
