use Rattle.std.proofs.Common.{◌≡◌, ◌-◌, ◌≤◌, length}
use Rattle.explain_walk.specs.Reach.{Reaching}
use Rattle.explain_walk.proofs.pass_occurrences.Given as goal

-- the walk stands at an alignment with the same row that spoils nothing of b, at or after the first
-- one
abbrev pub invariant-loop-next : goal.invariant-loop-next
invariant-loop-next l = record {
  reaching : Reaching l.job.pattern.now l.job.text.now l.b l.next (length l.job.pattern.now);
  same_row : l.next.repeat ≡ l.repeat;
  forward : l.initial.next.position ≤ l.next.position;
}

-- what is left before b
abbrev pub decreases-loop-next : goal.decreases-loop-next
decreases-loop-next l = l.b - l.next.position
