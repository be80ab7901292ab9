-- The row that an alignment goes by, the order or that of a repeat: how many entries it has, which is the first, and that all are positions.
-- By what the tables' own proofs say of each of the two.
use mathlib.Core.Bool.{Bool, true, false, cond}
use mathlib.Core.List.{List}
use mathlib.Core.Path.{◌≡◌}
use Prim.Native.Nat.{ℕ, ◌-◌, ◌≤◌, ◌<◌}
use native.Mathlib.Omega.{arith}
use lib.ListN.{length, get_or}
use Rattle.tables.proofs.Groups.{order_first, order_below}
use Rattle.tables.proofs.Order.{order_length}
use Rattle.tables.proofs.Periods.{period_facts}
use Rattle.tables.proofs.RepeatRow.{period_positive, repeat_row_length, repeat_row_entry, repeat_row_first}
use Rattle.tables.specs.Tables.{period, order, repeat_row}
use Rattle.steps.specs.Steps.{row}

pub row_order : (w : List ℕ) {repeat : Bool} → repeat ≡ false → row w repeat ≡ order w
unfolding row
row_order w e = rw e

pub row_repeat : (w : List ℕ) {repeat : Bool} → repeat ≡ true → row w repeat ≡ repeat_row w
unfolding row
row_repeat w e = rw e

pub row_length : (w : List ℕ) (repeat : Bool) → 1 ≤ length w → length (row w repeat) ≡ cond repeat (period w) (length w)
unfolding row
row_length w true h = repeat_row_length w
row_length w false h = order_length w h

pub row_first : (w : List ℕ) (repeat : Bool) → get_or (row w repeat) 0 0 ≡ length w - 1
unfolding row
row_first w true = repeat_row_first w
row_first w false = order_first w

pub row_some : (w : List ℕ) (repeat : Bool) → 1 ≤ length w → 1 ≤ length (row w repeat)
row_some w true h = omega (arith, row_length w true h, period_positive w)
row_some w false h = omega (arith, row_length w false h)

pub row_few : (w : List ℕ) (repeat : Bool) → 1 ≤ length w → length (row w repeat) ≤ length w
row_few w true h = omega (arith, row_length w true h, (period_facts w h).within)
row_few w false h = omega (arith, row_length w false h)

pub row_below : (w : List ℕ) (repeat : Bool) → 1 ≤ length w → (x : ℕ) → x < length (row w repeat) → get_or (row w repeat) x 0 < length w
unfolding row
row_below w true h x l = omega (arith, repeat_row_entry w x (omega (arith, repeat_row_length w)))
row_below w false h x l = order_below w h x l
