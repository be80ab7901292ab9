use Rattle.std.proofs.Common.{◌-◌, length}
use Rattle.tables_delta2.proofs.Links.{Narrowing}
use Rattle.tables_delta2.proofs.narrow.Given as goal

-- the linked shifts below k are settled, and k is the next one
abbrev pub invariant-loop-k : goal.invariant-loop-k
invariant-loop-k l = Narrowing l.pattern l.i l.h l.next l.least l.before l.k

-- what is left of the shifts up to m
abbrev pub decreases-loop-k : goal.decreases-loop-k
decreases-loop-k l = length l.pattern - l.k
