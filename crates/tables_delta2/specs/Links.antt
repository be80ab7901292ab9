-- The order as it is read beside Δ2, and the shifts that are still allowed, linked in their order in a table of 129 entries. These are definitions.
use Rattle.std.specs.Prelude.{List, ◌⊎◌, ◌≡◌, ℕ, ◌+◌, ◌≤◌, ◌<◌, ℤ, length, take, get_or}
use Rattle.answers.specs.Refusals.{longest_pattern}
use Rattle.tables.specs.Buffers.{PatternTaken}
use Rattle.tables.specs.Facts.{HasPeriod, Kept, Unlike}
use Rattle.tables.specs.Tables.{stored_order}

-- the order stands in a buffer
pub record OrderStored (w : List ℕ) (order : List ℤ) : Type 0 where
  pub taken : PatternTaken w
  pub stored : take (length w + 1) order ≡ stored_order w

-- y is the next number after x, up to m, that has a property
pub record Next (P : ℕ → Type 0) (m x y : ℕ) : Type 0 where
  pub above : x < y
  pub within : y ≤ m
  pub has : P y
  pub none_between : (z : ℕ) → x < z → z < y → P z → ⊥

-- the numbers from 1 to m that have a property are linked: entry 0 of a table is the first, and the entry of each below m the next
pub record Linked (P : ℕ → Type 0) (m : ℕ) (next : List ℕ) : Type 0 where
  pub room : length next ≡ longest_pattern + 1
  pub after : (x : ℕ) → x < m → (x ≡ 0) ⊎ P x → Next P m x (get_or next x 0)

-- a shift is left that keeps what the first i entries of the order show, and is no period; or it is m
abbrev pub Left : (w : List ℕ) → (i k : ℕ) → Type 0
Left w i k = Kept w i k × (HasPeriod w k → k ≡ length w)

-- the shifts that are left are linked
abbrev pub ShiftsLinked : (w : List ℕ) → (i : ℕ) → (next : List ℕ) → Type 0
ShiftsLinked w i next = Linked (Left w i) (length w) next

-- r is the least shift left that does not lay the pattern's own byte onto entry i of the order
pub record LeastLeft (w : List ℕ) (i r : ℕ) : Type 0 where
  pub positive : 1 ≤ r
  pub within : r ≤ length w
  pub left : Left w i r
  pub unlike : Unlike w i r
  pub least : (j : ℕ) → 1 ≤ j → j < r → Left w i j → Unlike w i j → ⊥
