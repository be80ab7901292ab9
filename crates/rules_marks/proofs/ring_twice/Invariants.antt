use Rattle.std.proofs.Common.{List, ℕ, ◌≤◌, ◌<◌, length}
use Rattle.rules.specs.Rules.{Rule, rules_of}
use Rattle.rules_claims.specs.Claims.{claimants}
use Rattle.rules_marks.proofs.ring_twice.Given as goal

-- no byte before `first` is claimed twice
abbrev pub Once : (rs : List Rule) (t : List ℕ) (first : ℕ) → Type 0
Once rs t first = (c : ℕ) → c < first → c < length t → claimants rs t c ≤ 1

-- so far
abbrev pub invariant-loop-first : goal.invariant-loop-first
invariant-loop-first l = Once (rules_of l.rules) l.text l.first
