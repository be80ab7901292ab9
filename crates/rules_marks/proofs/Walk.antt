-- A rule claims the byte j after `first` just where, over the ring as it is shown from q before
-- `first` on, its whole pattern ends before j + m. By the laws of prefixes and of going around a
-- ring.
use mathlib.Core.List.{List}
use mathlib.Core.Path.{◌≡◌, sym, ◌∙◌}
use Prim.Native.Nat.{ℕ, ◌+◌, ◌%◌, ◌≤◌, ◌<◌}
use native.Mathlib.Nat.{mod-add-mod, mod-eq_of_lt}
use native.Mathlib.Omega.{arith}
use borrow.Author.Tests.{le-leb}
use lib.Dec.{eqb}
use lib.ListN.{length}
use Rattle.tables.proofs.Least.{all_same}
use Rattle.tables.specs.Sets.{byte}
use Rattle.steps.proofs.Text.{shown_at}
use Rattle.steps.specs.Occurrences.{occurs}
use Rattle.steps.specs.Text.{shown}
use Rattle.ring.proofs.Back.{back_moved}
use Rattle.ring.specs.Ring.{back}
use Rattle.restore_prefixes.proofs.Walk.{occurrence_ends}
use Rattle.restore_prefixes.specs.Prefixes.{longest_prefix}
use Rattle.restore_prefixes.specs.Promises.{OccurrenceEnds}
use Rattle.rules.specs.Rules.{Rule}
use Rattle.rules_claims.proofs.Claimed.{agrees, claims_is}
use Rattle.rules_claims.specs.Claims.{claims}
use Rattle.rules_marks.specs.Marks.{shown_from}

module _ (t : List ℕ) (first j q : ℕ) (l : first + j < length t) where
  -- q back from `first` and j on is q back from the byte j after it
  moved : (i : ℕ) → shown t (back (length t) (first + j) q + i) ≡ shown t (back (length t) first q + (j + i))
  moved i =
      let n = length t in
      let b = back n first q in
      let there : back n (first + j) q ≡ (b + j) % n =
      sym (back_moved n (omega arith) first q j ∙ rw (mod-eq_of_lt l)) in
      let onward : b + j + i ≡ b + (j + i) = omega arith in
      shown_at t (back n (first + j) q + i)
      ∙ rw (there, mod-add-mod (b + j) n i, onward) (sym (shown_at t (b + (j + i))))

-- a byte is claimed just where the whole pattern ends
pub claims_ends :
    (r : Rule) (t : List ℕ) (first j : ℕ) → 1 ≤ length r.pattern → first + j < length t →
    let f = shown_from t (back (length t) first r.hold_offset) in
    claims r t (first + j) ≡ eqb (longest_prefix f r.pattern (j + length r.pattern)) (length r.pattern)
unfolding occurs OccurrenceEnds
claims_ends r t first j some l =
    let w = r.pattern in
    let f = shown_from t (back (length t) first r.hold_offset) in
    claims_is r t (first + j) some l
    ∙ all_same (length w) 0 (agrees w t (back (length t) (first + j) r.hold_offset))
    (λ i. eqb (f (j + i)) (byte w i))
    (λ i. rw (moved t first j r.hold_offset l i))
    ∙ sym (rw (le-leb (j + length w) (j + length w) (omega arith)))
    ∙ occurrence_ends f (j + length w) w j (omega arith)
