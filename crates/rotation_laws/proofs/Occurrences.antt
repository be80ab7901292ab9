-- The occurrences of a ring started r bytes later (`OccurrencesRotated`, `NumberRotated`), and its bound (`BoundRotated`): a position is an
-- occurrence just where the one r further on around the ring was, byte by byte.
use mathlib.Core.List.{List}
use mathlib.Core.Path.{◌≡◌, sym, ◌∙◌, ap}
use Prim.Native.Nat.{ℕ, ◌+◌, ◌%◌, ◌≤◌, ◌<◌}
use native.Mathlib.Nat.{mod-lt, mod-add-mod}
use native.Mathlib.Omega.{arith}
use lib.ListN.{length}
use Rattle.tables.specs.Sets.{byte}
use Rattle.steps.proofs.Bound.{few_comparisons}
use Rattle.steps.proofs.Occurrences.{occurs_agrees, agrees_occurs}
use Rattle.steps.proofs.Text.{shown_at, span_same, span_reaches}
use Rattle.steps.specs.Bound.{search_bound}
use Rattle.steps.specs.Occurrences.{occurrences}
use Rattle.steps.specs.Promises.{FewComparisons}
use Rattle.steps.specs.Steps.{comparisons}
use Rattle.steps.specs.Text.{shown, span}
use Rattle.ring.proofs.Back.{same_test, back_inverse}
use Rattle.ring.proofs.Listed.{passing_moved, ascending_count}
use Rattle.ring.proofs.Occurrences.{occurs_in, occurrences_passing, occurrences_ascend}
use Rattle.rotation_laws.proofs.Rotated.{length_rotated, shown_rotated}
use Rattle.rotation_laws.specs.Promises.{rotated, rotated_positions, ShownRotated, OccurrencesRotated, NumberRotated, BoundRotated}

module _ (r : ℕ) (w t : List ℕ) (some : 1 ≤ length w) (h : r ≤ length t) where
  abbrev n : ℕ
  n = length t

  abbrev u : List ℕ
  u = rotated r t

  -- j further on from b the ring started later shows what the ring shows j further on from b turned on by r
  shown_there : (b j : ℕ) → shown u (b + j) ≡ shown t ((b + r) % n + j)
  unfolding ShownRotated
  shown_there b j =
      let moved : b + j + r ≡ b + r + j = omega arith in
      shown_rotated r t h (b + j) ∙ shown_at t (b + j + r)
      ∙ ap (byte t) (rw moved (sym (mod-add-mod (b + r) n j)))
      ∙ sym (shown_at t ((b + r) % n + j))

  -- a position is an occurrence just where the one r further on was
  pub occurs_rotated : (b : ℕ) → b < n → occurs_in w u b ≡ occurs_in w t ((b + r) % n)
  occurs_rotated b l =
      let b' = (b + r) % n in
      same_test _ _
      (λ e.
      agrees_occurs (shown t) (span w t) w b' (span_reaches w t some b' (mod-lt (b + r) (omega arith)))
      (λ j v. occurs_agrees (shown u) (span w u) w b e j v ∙ shown_there b j))
      (λ e.
      agrees_occurs (shown u) (span w u) w b (span_reaches w u some b (rw length_rotated l))
      (λ j v. occurs_agrees (shown t) (span w t) w b' e j v ∙ sym (shown_there b j)))

pub occurrences_rotated : OccurrencesRotated
unfolding OccurrencesRotated rotated_positions
occurrences_rotated r w t some h =
    let n = length t in
    let u = rotated r t in
    rw (occurrences_passing w u some, occurrences_passing w t some, length_rotated r t)
    (passing_moved (back_inverse n r) (occurs_in w u) (occurs_in w t) (occurs_rotated r w t some h))

pub number_rotated : NumberRotated
unfolding NumberRotated OccurrencesRotated rotated_positions
number_rotated r w t some h =
    rw (occurrences_rotated r w t some h)
    (ascending_count (back_inverse (length t) r) 0 (occurrences w t) (occurrences_ascend w t some))

pub bound_rotated : BoundRotated
unfolding BoundRotated NumberRotated FewComparisons comparisons occurrences
bound_rotated r w t some h =
    let u = rotated r t in
    let same : search_bound w u ≡ search_bound w t = rw (number_rotated r w t some h, span_same w t u (length_rotated r t)) in
    (same, omega (arith, same, few_comparisons (shown u) (span w u) w some))
