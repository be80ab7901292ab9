use Rattle.std.proofs.Common.{◌<◌, length}
use Rattle.restore_prefixes.proofs.Candidates.{Candidate}
use Rattle.restore_prefixes.proofs.extended.Given as goal

-- the prefix of length k ends before the byte and is not the whole pattern, and no longer one is
-- extended by the byte
abbrev pub invariant-loop-k : goal.invariant-loop-k
invariant-loop-k l = record {
  candidate : Candidate l.pattern l.prefix l.byte l.k;
  short : l.k < length l.pattern;
}

-- a link is shorter
abbrev pub decreases-loop-k : goal.decreases-loop-k
decreases-loop-k l = l.k
