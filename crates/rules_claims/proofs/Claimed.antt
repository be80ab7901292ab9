-- A rule claims a byte just where its pattern, laid with its hold offset there, agrees with the
-- ring. By the law of what is held (`held_at`), since from each position of the ring a pattern is
-- shown whole.
use mathlib.Core.Bool.{Bool, true}
use mathlib.Core.List.{List}
use mathlib.Core.Path.{◌≡◌, sym, ◌∙◌}
use Prim.Native.Nat.{ℕ, ◌+◌, ◌≤◌, ◌<◌}
use native.Mathlib.Omega.{arith}
use borrow.Author.Tests.{le-leb, eqb-true}
use lib.Dec.{eqb}
use lib.ListN.{length}
use Rattle.tables.specs.Least.{all_from}
use Rattle.tables.proofs.Least.{all_each}
use Rattle.tables.specs.Sets.{byte}
use Rattle.steps.proofs.Text.{span_reaches}
use Rattle.steps.specs.Occurrences.{occurs}
use Rattle.steps.specs.Text.{shown, span}
use Rattle.ring.proofs.Back.{back_inside}
use Rattle.ring.specs.Ring.{back}
use Rattle.frames.proofs.Holds.{held_at}
use Rattle.rules.specs.Rules.{Rule}
use Rattle.rules_claims.specs.Claims.{claims}

-- the pattern laid at b agrees at j
abbrev pub agrees : (w t : List ℕ) (b j : ℕ) → Bool
agrees w t b j = eqb (shown t (b + j)) (byte w j)

module _ (r : Rule) (t : List ℕ) (c : ℕ) (some : 1 ≤ length r.pattern) (l : c < length t) where
  pub claims_is :
      claims r t c ≡ all_from (length r.pattern) 0 (agrees r.pattern t (back (length t) c r.hold_offset))
  unfolding claims occurs
  claims_is =
      let b = back (length t) c r.hold_offset in
      held_at r.pattern t some r.hold_offset c l
      ∙ rw (le-leb (b + length r.pattern) (span r.pattern t)
      (span_reaches r.pattern t some b (back_inside (length t) (omega arith) c r.hold_offset)))

  -- where it claims a byte, each byte of its pattern is shown
  pub claims_shown :
      claims r t c ≡ true → (j : ℕ) → j < length r.pattern →
      shown t (back (length t) c r.hold_offset + j) ≡ byte r.pattern j
  claims_shown e j u =
      eqb-true _ _
      (all_each (length r.pattern) 0 (agrees r.pattern t (back (length t) c r.hold_offset))
      (sym claims_is ∙ e) j (omega arith) (omega arith))
