use Rattle.std.proofs.Common.{◌≡◌, ◌<◌, ◌≤◌, List, ℕ, length, get_or}
use Rattle.tables.proofs.KMin.{LeastAbove}
use Rattle.tables_minima.proofs.k_min_table.Given as goal

pub record Begun (w t : List ℕ) (k : ℕ) : Type 0 where
  pub size : length t ≡ 129
  pub high : k ≤ length w
  pub right : (h : ℕ) → h < length w → LeastAbove w k h (get_or t h 0)

-- each entry h is the least of the numbers above k with h_min = h, at most h, and 0 where there is
-- none
abbrev pub invariant-loop-k : goal.invariant-loop-k
invariant-loop-k l = Begun l.pattern l.k_min l.k
