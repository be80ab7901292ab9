-- What running the steps by the tables takes. These are definitions.
use Rattle.std.specs.Prelude.{List, ℕ, ◌≤◌, ℤ, length}
use Rattle.tables.specs.Tables.{stored_order, period}
use Rattle.steps.specs.Occurrences.{occurrences}
use Rattle.alignment.specs.Ready.{Begins, ShiftTablesReady}

-- a pattern and a text that are taken, with the tables of shifts in front of their buffers, and
-- room for the occurrences
pub record ShiftsReady (w t delta2 delta1 delta3 found : List ℕ) : Type 0 where
  pub tables : ShiftTablesReady w t delta2 delta1 delta3 (period w)
  pub room : length (occurrences w t) ≤ length found

-- with all tables
pub record RunReady (w t : List ℕ) (order : List ℤ) (delta2 delta1 delta3 found : List ℕ) : Type 0 where
  pub order_ready : Begins (stored_order w) order
  pub shifts : ShiftsReady w t delta2 delta1 delta3 found
