-- The occurrences in a ring (`OccurrencesAround`, `OccurrencesMeant`): the text's positions that
-- pass the test, which ascend. From each of its positions the pattern is shown whole, and no other.
use mathlib.Core.Bool.{Bool, true}
use mathlib.Core.List.{List}
use mathlib.Core.Path.{◌≡◌, refl, sym, ◌∙◌}
use Prim.Native.Nat.{ℕ, zero, suc, ◌+◌, ◌≤◌, ◌<◌}
use native.Mathlib.Omega.{arith}
use borrow.Author.Tests.{le-leb, lt-leb}
use lib.ListN.{length}
use Rattle.steps.proofs.Occurrences.{occurs_agrees, agrees_occurs, occurs_inside}
use Rattle.steps.proofs.Text.{span_reaches, span_covers, span_few, span_ends}
use Rattle.steps.specs.Occurrences.{occurs, occurrences_from, all_occurrences, occurrences}
use Rattle.steps.specs.Text.{shown, span}
use Rattle.ring.proofs.Ascending.{Ascends, ascends_strictly, passing_ascends, passing_same}
use Rattle.ring.proofs.Listed.{is_in_passing}
use Rattle.ring.specs.Promises.{OccurrencesAround, OccursAt, OccurrencesMeant}
use Rattle.ring.specs.Ring.{is_in, passing}

-- the occurrences are those of the first k positions that pass the test, where from no other the
-- pattern is shown whole
passing_first :
    (count k b : ℕ) (f : ℕ → ℕ) (N : ℕ) (w : List ℕ) → k ≤ count → N < b + k + length w →
    occurrences_from count b f N w ≡ passing k b (occurs f N w)
unfolding occurrences_from passing occurs
passing_first zero zero b f N w h l = refl
passing_first zero (suc k) b f N w h l = absurd (omega arith)
passing_first (suc n) zero b f N w h l =
    rw (lt-leb (b + length w) N (omega arith)) (passing_first n zero (suc b) f N w (omega arith) (omega arith))
passing_first (suc n) (suc k) b f N w h l = rw (passing_first n k (suc b) f N w (omega arith) (omega arith))

-- b is an occurrence of w in t
abbrev pub occurs_in : (w t : List ℕ) (b : ℕ) → Bool
occurs_in w t b = occurs (shown t) (span w t) w b

module _ (w t : List ℕ) (some : 1 ≤ length w) where
  pub occurrences_passing : occurrences w t ≡ passing (length t) 0 (occurs_in w t)
  unfolding occurrences all_occurrences
  occurrences_passing =
      passing_first (suc (span w t)) (length t) 0 (shown t) (span w t) w (omega (arith, span_covers w t some)) (omega (arith, span_few w t some))

  -- they ascend, each once, below n
  pub occurrences_ascend : Ascends 0 (length t) (occurrences w t)
  occurrences_ascend = rw occurrences_passing (passing_ascends (length t) 0 (length t) _ (omega arith))

  -- an occurrence is a position of the text
  occurs_below : (b : ℕ) → occurs_in w t b ≡ true → b < length t
  occurs_below b e = span_ends w t some b (occurs_inside (shown t) (span w t) w b e)

  -- a number is among them just where it is an occurrence
  pub is_in_occurrences : (b : ℕ) → is_in (occurrences w t) b ≡ occurs_in w t b
  is_in_occurrences b =
      rw occurrences_passing (is_in_passing (length t) 0 b (occurs_in w t) (λ e. (omega arith, omega (arith, occurs_below b e))))

pub occurrences_meant : OccurrencesMeant
unfolding OccurrencesMeant OccursAt shown
occurrences_meant w t some = (
  λ b. rw (is_in_occurrences w t some b) (
    λ e. (occurs_below w t some b e, λ j l. sym (occurs_agrees (shown t) (span w t) w b e j l)),
    λ (l, each). agrees_occurs (shown t) (span w t) w b (span_reaches w t some b l) (λ j u. sym (each j u)),
  ),
  ascends_strictly 0 (length t) (occurrences w t) (occurrences_ascend w t some),
)

pub occurrences_around : OccurrencesAround
unfolding OccurrencesAround occurs shown
occurrences_around w t some =
    occurrences_passing w t some
    ∙ passing_same (length t) 0 _ _ (λ b l u. rw (le-leb (b + length w) (span w t) (span_reaches w t some b (omega arith))))
