-- What going by the tables of a pattern takes. These are definitions.
use Rattle.std.specs.Prelude.{true, List, ◌≡◌, ℕ, ◌≤◌, ℤ, length, take}
use Rattle.answers.specs.Refusals.{longest_pattern, longest_text}
use Rattle.tables.specs.Tables.{stored_order, stored_Δ2, stored_Δ1, stored_Δ3, period, repeats}

-- these entries are the first of a buffer
abbrev pub Begins : {A : Type 0} → (entries buffer : List A) → Type 0
Begins entries buffer = take (length entries) buffer ≡ entries

-- a pattern and a text that are taken
pub record Taken (w t : List ℕ) : Type 0 where
  pub some : 1 ≤ length w
  pub few : length w ≤ longest_pattern
  pub text : length t ≤ longest_text

-- a pattern and a text that are taken, with the order in front of its buffer, and the pattern's period
pub record RowReady (w t : List ℕ) (order : List ℤ) (p : ℕ) : Type 0 where
  pub taken : Taken w t
  pub order_ready : Begins (stored_order w) order
  pub period_is : p ≡ period w

-- the same with the tables of shifts
pub record ShiftTablesReady (w t delta2 delta1 delta3 : List ℕ) (p : ℕ) : Type 0 where
  pub taken : Taken w t
  pub delta2_ready : Begins (stored_Δ2 w) delta2
  pub delta1_ready : Begins (stored_Δ1 w) delta1
  pub delta3_ready : Begins (stored_Δ3 w) delta3
  pub period_is : p ≡ period w

-- the same with the tables that repeats go by, where the pattern repeats
pub record RepeatsReady (w t delta1 delta3 : List ℕ) (p : ℕ) : Type 0 where
  pub taken : Taken w t
  pub delta1_ready : Begins (stored_Δ1 w) delta1
  pub delta3_ready : Begins (stored_Δ3 w) delta3
  pub long : repeats w ≡ true
  pub period_is : p ≡ period w
