use Rattle.std.proofs.Common.{◌≡◌, ◌+◌, ◌<◌, ◌≤◌, List, ℕ, ℤ, pos, length, get_or}
use Rattle.tables.specs.Tables.{h_min}
use Rattle.tables_minima.proofs.h_min_table.Given as goal

-- the entries from 1 to k - 1 are right
pub record Filled (w : List ℕ) (t : List ℤ) (k : ℕ) : Type 0 where
  pub size : length t ≡ 129
  pub high : k ≤ length w + 1
  pub right : (j : ℕ) → 1 ≤ j → j < k → get_or t j (pos 0) ≡ pos (h_min w j)

pub record Begun (w : List ℕ) (t : List ℤ) (base k : ℕ) : Type 0 where
  pub low : 1 ≤ base
  pub below : base < k
  pub filled : Filled w t k

-- the entries from 1 to k - 1 are right, and `base` is one of these
abbrev pub invariant-loop-k : goal.invariant-loop-k
invariant-loop-k l = Begun l.pattern l.h_min l.base l.k
