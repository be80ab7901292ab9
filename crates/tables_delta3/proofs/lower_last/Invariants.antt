use Rattle.std.proofs.Common.{◌≡◌, ◌+◌, ◌-◌, ◌≤◌, ◌<◌, List, ℕ, length, get_or}
use Rattle.tables.proofs.RepeatMinima.{LeastOver}
use Rattle.tables.specs.Tables.{period}
use Rattle.tables_delta3.proofs.lower_last.Given as goal

pub record Begun (w t : List ℕ) (k : ℕ) : Type 0 where
  pub size : length t ≡ length w
  pub high : k < length w
  pub right : (i : ℕ) → i < length w → length w ≤ i + period w → LeastOver w k i (get_or t i 0)
  pub zeros : (i : ℕ) → i + period w < length w → get_or t i 0 ≡ 0

-- each of the last p entries i is the least of r_min(i) and of the numbers from k on, at most i,
-- that Δ3(i) may be; the entries before are 0
abbrev pub invariant-loop-k : goal.invariant-loop-k
invariant-loop-k l = Begun l.pattern l.table (l.k - 1)
