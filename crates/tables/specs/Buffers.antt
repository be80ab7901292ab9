-- The caller's buffers (lent buffers) for the tables: what they hold, how long they are and have to be, and what is left in them
-- (document 01, "Turned away, by who can cause it"). These are definitions.
use Rattle.std.specs.Prelude.{Bool, ◌||◌, List, [], ◌∷◌, ◌++◌, ◌≡◌, ℕ, ◌+◌, ◌*◌, ◌≤◌, ltb, ℤ, length}
use Rattle.answers.specs.Answers.{if_done}
use Rattle.answers.specs.Buffers.{in_front}
use Rattle.answers.specs.Refusals.{Refusal, refuse, first_of, longest_pattern, job_refusals}
use Rattle.tables.specs.Tables.{stored_order, stored_Δ2, stored_Δ1, stored_Δ3}
use Rattle.tables.specs.declared.TableLengths.{TableLengths}

-- what stands in the buffers for order, Δ2, Δ1 and Δ3
pub record Tables : Type 0 where
  pub order : List ℤ
  pub delta2 : List ℕ
  pub delta1 : List ℕ
  pub delta3 : List ℕ

-- these buffers together
abbrev pub tables : (order : List ℤ) → (delta2 delta1 delta3 : List ℕ) → Tables
tables o d2 d1 d3 = record { order = o; delta2 = d2; delta1 = d1; delta3 = d3 }

-- how long the buffers are
abbrev pub lengths : Tables → TableLengths
lengths x = record { order = length x.order; delta2 = length x.delta2; delta1 = length x.delta1; delta3 = length x.delta3 }

-- needed are m + 1 entries each for order and Δ2, 256 × m for Δ1, m for Δ3
abbrev pub needed : (m : ℕ) → TableLengths
needed m = record { order = m + 1; delta2 = m + 1; delta1 = 256 * m; delta3 = m }

-- a buffer has fewer entries than these
abbrev pub short_of : TableLengths → TableLengths → Bool
short_of need l =
    ltb l.order need.order
    || ltb l.delta2 need.delta2
    || ltb l.delta1 need.delta1
    || ltb l.delta3 need.delta3

-- a buffer is too short
abbrev pub tables_short : (m : ℕ) → TableLengths → Bool
tables_short m l = short_of (needed m) l

-- a pattern's length is one that is taken
pub record PatternTaken (w : List ℕ) : Type 0 where
  pub some : 1 ≤ length w
  pub few : length w ≤ longest_pattern

-- a pattern is taken, and the buffers are long enough for its tables
pub record TablesFit (w : List ℕ) (lent : Tables) : Type 0 where
  pub taken : PatternTaken w
  pub order_room : (needed (length w)).order ≤ length lent.order
  pub delta2_room : (needed (length w)).delta2 ≤ length lent.delta2
  pub delta1_room : (needed (length w)).delta1 ≤ length lent.delta1
  pub delta3_room : (needed (length w)).delta3 ≤ length lent.delta3

-- 7, as far as the tables go
abbrev pub table_refusal : (m : ℕ) → TableLengths → Refusal
table_refusal m l = refuse 7 (tables_short m l)

-- the status of a call that works the tables out: 4, 5, 6, then 7 for the tables' buffers, and for its own where these are too short
unfoldable pub measured_status : (m q n : ℕ) → TableLengths → (short : Bool) → ℕ
measured_status m q n l short = first_of (job_refusals m q n ++ (table_refusal m l ∷ refuse 7 short ∷ []))

-- the tables of a pattern, as they are stored, in front of what the buffers held
abbrev pub with_tables : (w : List ℕ) → (lent : Tables) → Tables
with_tables w x =
    tables (in_front (stored_order w) x.order) (in_front (stored_Δ2 w) x.delta2) (in_front (stored_Δ1 w) x.delta1)
    (in_front (stored_Δ3 w) x.delta3)

-- what is left in the buffers by a call of this status that works the tables out
unfoldable pub tables_left : (status : ℕ) → (w : List ℕ) → (lent : Tables) → Tables
tables_left s w x = if_done s (with_tables w x) x

-- the same, table by table, of a call that is done
pub record TablesWritten (w : List ℕ) (lent left : Tables) : Type 0 where
  pub order : left.order ≡ (with_tables w lent).order
  pub delta2 : left.delta2 ≡ (with_tables w lent).delta2
  pub delta1 : left.delta1 ≡ (with_tables w lent).delta1
  pub delta3 : left.delta3 ≡ (with_tables w lent).delta3
