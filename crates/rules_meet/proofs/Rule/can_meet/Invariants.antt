use Rattle.std.proofs.Common.{◌≡◌, ◌-◌, length}
use Rattle.tables.specs.Least.{all_from}
use Rattle.rules_meet.specs.Meeting.{agree_at}
use Rattle.rules_meet.proofs.Rule.can_meet.Given as goal

-- the patterns agree everywhere just where they do from j on
abbrev pub invariant-loop-j : goal.invariant-loop-j
invariant-loop-j l =
    all_from (length l.self.pattern) 0 (agree_at l.self l.other)
    ≡ all_from (length l.self.pattern - l.j) l.j (agree_at l.self l.other)
