-- When `turn` is done: where the way is one of the four, the job is within the limits and the buffers have room, and only there.
-- By its list of conditions, of which none holds.
use mathlib.Core.List.{List, [], ◌∷◌, ◌++◌}
use mathlib.Core.Path.{◌≡◌}
use Prim.Native.Nat.{ℕ, ◌≤◌}
use native.Mathlib.Omega.{arith}
use borrow.Author.Tests.{ltb-false, le-ltb}
use Rattle.answers.proofs.Refusals.{done_none, none_done, limits_hold, limits_none}
use Rattle.answers.specs.Refusals.{Refusal, job_refusals, WithinLimits, buffer_refusal}
use Rattle.turn.specs.Turn.{way_refusal, turn_status}
use Rattle.turn.specs.Ways.{way_number}
use Rattle.turn.specs.declared.Way.{Way}
use Rattle.turn.specs.declared.Way.TheVariants.{AsDrawn, Mirrored, Reversed, Both}

pub record Turnable (way m q n p x : ℕ) : Type 0 where
  pub known : way ≤ 3
  pub limits : WithinLimits m q n
  pub pattern_room : m ≤ p
  pub text_room : n ≤ x

-- the number of a way is at most 3
pub way_known : {number : ℕ} (way : Way) → number ≡ way_number way → number ≤ 3
way_known AsDrawn e = omega arith
way_known Mirrored e = omega arith
way_known Reversed e = omega arith
way_known Both e = omega arith

module _ (way m q n p x : ℕ) where
  abbrev refusals : List Refusal
  refusals = way_refusal way ∷ job_refusals m q n ++ (buffer_refusal p m ∷ buffer_refusal x n ∷ [])

  pub turnable : turn_status way m q n p x ≡ 0 → Turnable way m q n p x
  unfolding turn_status job_refusals
  turnable e =
      let (known, rest) = done_none refusals (omega arith) e in
      let (limits, rooms) = limits_hold m q n rest in
      record { known = ltb-false _ _ known; limits = limits; pattern_room = ltb-false _ _ rooms.0; text_room = ltb-false _ _ rooms.1.0 }

  pub turnable_done : Turnable way m q n p x → turn_status way m q n p x ≡ 0
  unfolding turn_status job_refusals
  turnable_done t =
      none_done refusals
      (le-ltb _ _ t.known, limits_none m q n t.limits (le-ltb _ _ t.pattern_room, (le-ltb _ _ t.text_room, tt)))
