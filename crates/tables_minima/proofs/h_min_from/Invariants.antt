use Rattle.std.proofs.Common.{◌≡◌, ◌+◌, ◌<◌, ◌≤◌, List, ℕ, ℤ, pos, ◌+ℤ◌, length}
use borrow.Author.Gap.{gap}
use lib.IntN.{sub_ℕ}
use Rattle.tables.specs.Facts.{OutNeg}
use Rattle.tables.specs.Sets.{byte}
use Rattle.tables_minima.proofs.h_min_from.Given as goal

pub record ComparedDown (w : List ℕ) (k from : ℕ) (below : ℤ) : Type 0 where
  pub i : ℕ
  pub low : k ≤ i + 1
  pub high : i ≤ from
  pub is : below ≡ sub_ℕ i k
  pub agree : (j : ℕ) → i < j → j < length w → OutNeg w (byte w j) j k

-- `below` is i - k for a position i above which the pattern agrees with itself k positions on
abbrev pub invariant-loop-below : goal.invariant-loop-below
invariant-loop-below l = ComparedDown l.pattern l.k l.from l.below

-- the positions that are left to compare
abbrev pub decreases-loop-below : goal.decreases-loop-below
decreases-loop-below l = gap (pos 0) (l.below +ℤ pos 1)
