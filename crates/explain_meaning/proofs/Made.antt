-- An alignment that the search makes: what it shows along its row, whether it is an occurrence and
-- a repeat (`RepeatsMeant`), and the one kind of its shift. By the laws of one step and the tests.
use mathlib.Core.Bool.{Bool, false}
use mathlib.Core.List.{List}
use mathlib.Core.Logic.{⊎_elim}
use mathlib.Core.Path.{◌≡◌, sym, ◌∙◌, ap}
use Prim.Native.Nat.{ℕ, ◌≤◌, ◌<◌}
use native.Mathlib.Omega.{arith}
use borrow.Author.Tests.{eq-eqb, ne_eqb}
use lib.Dec.{eqb}
use lib.ListN.{length}
use Rattle.tables.proofs.Cases.{true_or_false, eq_or_ne}
use Rattle.steps.proofs.Occurrences.{step_tells}
use Rattle.steps.proofs.Runs.{ByStep, by_step}
use Rattle.steps.proofs.Steps.{Ends, agreeing_ends, step_is_occurrence, step_is_repeat, step_row, step_agreed, step_position}
use Rattle.steps.specs.Occurrences.{occurs}
use Rattle.steps.specs.Steps.{Alignment, row, is_occurrence, comparisons_of}
use Rattle.explain_meaning.specs.Explanation.{kind_by, kind_of}
use Rattle.explain_meaning.specs.Promises.{Made, ShiftsBy, RepeatAt, RepeatsMeant}
use Rattle.explain_answers.specs.declared.ShiftKind.{ShiftKind}
use Rattle.explain_answers.specs.declared.ShiftKind.TheVariants.{LastByte, Order, AfterOccurrence, LongRepeat}

module _ (f : ℕ → ℕ) (N : ℕ) (w : List ℕ) (nonempty : 1 ≤ length w) {a : Alignment} (made : Made f N w a) where
  pub stepped : ByStep f N w (comparisons_of made.before) a
  stepped = by_step f N w nonempty made.before a made.later made.split

  pub occurring : is_occurrence a ≡ occurs f N w a.position
  occurring =
      let by = stepped in
      let b = by.b in
      let s = by.s in
      let repeat = by.repeat in
      let here = step_is_occurrence f w b s repeat ∙ step_tells f N w nonempty _ b s repeat by.known.carried by.inside in
      rw by.same (here ∙ sym (ap (occurs f N w) (step_position f w b s repeat)))

  pub ends : Ends f w a.position a.row a.agreed
  ends =
      let by = stepped in
      let b = by.b in
      let s = by.s in
      let repeat = by.repeat in
      rw (by.same, step_position f w b s repeat, step_row f w b s repeat, step_agreed f w b s repeat) (agreeing_ends f w b (row w repeat))

  -- all agree, or one differs
  abbrev all : Bool
  all = eqb a.agreed (length a.row)

  occurs_so : occurs f N w a.position ≡ all
  unfolding is_occurrence
  occurs_so = sym occurring

  differs : a.agreed < length a.row → all ≡ false
  differs l = ne_eqb a.agreed (length a.row) (omega arith)

  -- only the kind defined is that of the shift
  pub shifts_only : {kind : ShiftKind} → ShiftsBy f N w a kind → kind ≡ kind_of a
  unfolding ShiftsBy kind_by
  shifts_only {kind = AfterOccurrence} e = let agree = sym occurs_so ∙ e in rw agree
  shifts_only {kind = LongRepeat} (l, r) = rw (differs l, r)
  shifts_only {kind = LastByte} (l, r, z) = rw (differs l, r, eq-eqb a.agreed 0 z)
  shifts_only {kind = Order} (l, r, n) = rw (differs l, r, ne_eqb a.agreed 0 (omega arith))

  -- and it is
  shifts_as : (kind : ShiftKind) → ShiftsBy f N w a kind → ShiftsBy f N w a (kind_of a)
  shifts_as kind h = rw (← shifts_only {kind = kind} h) h

  pub shifts_so : ShiftsBy f N w a (kind_of a)
  unfolding ShiftsBy
  shifts_so =
      ⊎_elim
      (λ e. shifts_as AfterOccurrence (occurs_so ∙ eq-eqb a.agreed (length a.row) e))
      (λ d.
      let fewer : a.agreed < length a.row = omega (arith, ends.within) in
      ⊎_elim
      (λ r. shifts_as LongRepeat (fewer, r))
      (λ r.
      ⊎_elim
      (λ z. shifts_as LastByte (fewer, r, z))
      (λ n. shifts_as Order (fewer, r, omega arith))
      (eq_or_ne a.agreed 0))
      (true_or_false a.repeat))
      (eq_or_ne a.agreed (length a.row))

pub repeats_meant : RepeatsMeant
unfolding RepeatsMeant RepeatAt
repeats_meant f N w h a made =
    let by = stepped f N w h made in
    rw (by.same, step_is_repeat f w by.b by.s by.repeat, step_position f w by.b by.s by.repeat) by.known.tells
