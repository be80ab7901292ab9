-- Where no byte is claimed twice, the rules have at most n occurrences in all (`FewFound`): each
-- rule claims as many bytes as it has occurrences, and claims are counted byte by byte, rule by
-- rule.
use mathlib.Core.Bool.{true, false}
use mathlib.Core.List.{List, [], ◌∷◌}
use mathlib.Core.Logic.{⊎_elim}
use mathlib.Core.Path.{◌≡◌, refl}
use Prim.Native.Nat.{ℕ, zero, suc, ◌+◌, ◌≤◌, ◌<◌}
use native.Mathlib.Omega.{arith}
use lib.ListN.{length, length-append}
use Rattle.tables.proofs.Cases.{true_or_false, eq_or_ne, le_or_lt}
use Rattle.steps.proofs.Text.{span_some}
use Rattle.steps.specs.Occurrences.{occurs, occurrences_from, all_occurrences, occurrences}
use Rattle.steps.specs.Text.{span}
use Rattle.ring.proofs.Ascending.{Ascends, passing_ascends}
use Rattle.ring.proofs.Back.{on_inverse}
use Rattle.ring.proofs.Listed.{ascending_count}
use Rattle.ring.proofs.Occurrences.{occurrences_ascend}
use Rattle.ring.specs.Ring.{passing, ascending}
use Rattle.frames.specs.Frames.{holds}
use Rattle.rules.specs.Buffers.{one_after_another}
use Rattle.rules.specs.Rules.{Rule, Patterned}
use Rattle.rules_claims.proofs.Twice.{once_each}
use Rattle.rules_claims.specs.Claims.{found_of, claims, claimants}
use Rattle.rules_claims.specs.Promises.{FewFound}

-- the occurrences of a run of positions are those that pass
from_passing : (n b : ℕ) (f : ℕ → ℕ) (N : ℕ) (w : List ℕ) → occurrences_from n b f N w ≡ passing n b (occurs f N w)
unfolding occurrences_from passing
from_passing zero b f N w = refl
from_passing (suc n) b f N w = rw (from_passing n (suc b) f N w)

module _ (t : List ℕ) where
  -- how often the n bytes from i on are claimed, rule by rule
  unfoldable pub times_claimed : (n i : ℕ) → List Rule → ℕ
  times_claimed n i [] = 0
  times_claimed n i (r ∷ rs) = length (passing n i (claims r t)) + times_claimed n i rs

  -- the first of them, and the others
  pub next : (n i : ℕ) (rs : List Rule) → times_claimed (suc n) i rs ≡ claimants rs t i + times_claimed n (suc i) rs
  unfolding times_claimed claimants passing
  next n i [] = refl
  next n i (r ∷ rs) =
      ⊎_elim
      (λ (y : claims r t i ≡ true). rw y (omega (arith, next n i rs)))
      (λ (y : claims r t i ≡ false). rw y (omega (arith, next n i rs)))
      (true_or_false (claims r t i))

  pub none : (i : ℕ) (rs : List Rule) → times_claimed 0 i rs ≡ 0
  unfolding times_claimed passing
  none i [] = refl
  none i (r ∷ rs) = omega (arith, none i rs)

  -- bytes that are claimed at most once each are claimed at most n times in all
  few : (n i : ℕ) (rs : List Rule) → ((c : ℕ) → i ≤ c → c < i + n → claimants rs t c ≤ 1) → times_claimed n i rs ≤ n
  few zero i rs once = omega (arith, none i rs)
  few (suc n) i rs once =
      omega (
        arith,
        next n i rs,
        once i (omega arith) (omega arith),
        few n (suc i) rs (λ c l u. once c (omega arith) (omega arith)),
      )

  -- a rule's occurrences ascend, each once, below n
  found_ascend : (r : Rule) → (length t ≡ 0 → 1 ≤ length r.pattern) → Ascends 0 (length t) (found_of t r)
  unfolding occurrences all_occurrences
  found_ascend r some =
      let w = r.pattern in
      ⊎_elim
      (λ full. occurrences_ascend w t full)
      (λ empty.
      let ring : 1 ≤ length t =
      ⊎_elim (λ e. absurd (omega (arith, some e))) (λ ne. omega arith) (eq_or_ne (length t) 0) in
      rw from_passing (passing_ascends (suc (span w t)) 0 (length t) _ (omega (arith, span_some w t ring))))
      (le_or_lt 1 (length w))

  -- and it claims as many bytes
  claimed_found :
      (r : Rule) → (length t ≡ 0 → 1 ≤ length r.pattern) →
      length (passing (length t) 0 (claims r t)) ≡ length (found_of t r)
  unfolding claims holds ascending
  claimed_found r some = ascending_count (on_inverse (length t) r.hold_offset) 0 (found_of t r) (found_ascend r some)

  -- the occurrences of all rules are as many as the times that a byte is claimed
  pub all_found :
      (rs : List Rule) → (length t ≡ 0 → Patterned rs) →
      length (one_after_another (found_of t) rs) ≡ times_claimed (length t) 0 rs
  unfolding Patterned one_after_another times_claimed
  all_found [] some = refl
  all_found (r ∷ rs) some =
      rw (
        length-append (found_of t r) (one_after_another (found_of t) rs),
        claimed_found r (λ e. (some e).0),
        all_found rs (λ e. (some e).1),
      )

pub few_found : FewFound
unfolding FewFound
few_found rs t some e =
    rw (all_found t rs some) (few t (length t) 0 rs (λ c l u. once_each rs t e c (omega arith)))
