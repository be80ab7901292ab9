-- `rules_meet::meets_another` meets its contract. The loop's invariant: the rule can meet none of
-- the others before j. Assumes nothing.
use Rattle.std.proofs.Common.{List, ◌≡◌, false, ℕ, ◌<◌}
use Rattle.rules.specs.Rules.{rule_at}
use Rattle.rules_meet.specs.Meeting.{can_meet}
use Rattle.rules_meet.proofs.meets_another.Given as goal

-- rule i can meet none of the others before j
pub record Apart (x : List ℕ) (i j : ℕ) : Type 0 where
  pub apart : (k : ℕ) → k < j → (i ≡ k → ⊥) → can_meet (rule_at x i) (rule_at x k) ≡ false

-- so far
abbrev pub invariant-loop-j : goal.invariant-loop-j
invariant-loop-j l = Apart l.rules l.i l.j
