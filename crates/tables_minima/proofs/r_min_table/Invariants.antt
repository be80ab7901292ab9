use Rattle.std.proofs.Common.{◌≡◌, ◌<◌, ◌≤◌, List, ℕ, length, get_or}
use Rattle.tables.specs.Facts.{RMin}
use Rattle.tables.specs.Tables.{r_min}
use Rattle.tables_minima.proofs.r_min_table.Given as goal

pub record Begun (w t : List ℕ) (least r : ℕ) : Type 0 where
  pub size : length t ≡ 129
  pub high : r ≤ length w
  pub above : r < length w → RMin w r least
  pub right : (h : ℕ) → r ≤ h → h < length w → get_or t h 0 ≡ r_min w h

-- the entries from r on are right, and `least` is the least period above r
abbrev pub invariant-loop-r : goal.invariant-loop-r
invariant-loop-r l = Begun l.pattern l.r_min l.least l.r
