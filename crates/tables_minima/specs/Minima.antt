-- h_min, k_min and r_min in tables of 129 entries, and what the function that finds an h_min asks for. These are definitions.
use Rattle.std.specs.Prelude.{List, ◌≡◌, ℕ, ◌+◌, ◌≤◌, ◌<◌, ℤ, pos, length, get_or}
use Rattle.tables.specs.Facts.{OutNeg}
use Rattle.tables.specs.Buffers.{PatternTaken}
use Rattle.tables.specs.Sets.{byte}
use Rattle.tables.specs.Tables.{h_min, k_min, r_min}

-- h_min(k) is at or below a position
pub record HMinBegun (w : List ℕ) (k from : ℕ) : Type 0 where
  pub taken : PatternTaken w
  pub positive : 1 ≤ k
  pub low : k ≤ from + 1
  pub high : from < length w
  pub outside : (j : ℕ) → from < j → j < length w → OutNeg w (byte w j) j k

-- entry k of a table is h_min(k), for k from 1 to m
pub record HMinTable (w : List ℕ) (table : List ℤ) : Type 0 where
  pub taken : PatternTaken w
  pub entry : (k : ℕ) → 1 ≤ k → k ≤ length w → get_or table k (pos 0) ≡ pos (h_min w k)

-- entry h is k_min(h), for h from 0 to m - 1
pub record KMinTable (w table : List ℕ) : Type 0 where
  pub entry : (h : ℕ) → h < length w → get_or table h 0 ≡ k_min w h

-- entry h is r_min(h), for h from 0 to m - 1
pub record RMinTable (w table : List ℕ) : Type 0 where
  pub entry : (h : ℕ) → h < length w → get_or table h 0 ≡ r_min w h
