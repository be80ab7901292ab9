-- `alignment::row_entry` meets its contract: entry i of a repeat's row is m - 1 - i, and the
-- order's is read from its buffer. Assumes nothing.
use Rattle.std.proofs.Common.{true, false, ◌≡◌, ◌≤◌, ◌<◌, ℕ, ℤ, pos, List, length, get_or, refl, sym, ap, arith}
use lib.IntN.{nat_abs}
use Rattle.tables.proofs.Groups.{order_below}
use Rattle.tables.proofs.Order.{order_length, stored_order_length}
use Rattle.tables.proofs.RepeatRow.{repeat_row_entry}
use Rattle.tables.proofs.Periods.{period_facts}
use Rattle.tables.specs.Buffers.{PatternTaken}
use Rattle.tables.specs.Tables.{order, period, stored_order}
use Rattle.steps.proofs.Rows.{row_order, row_repeat, row_length}
use Rattle.steps.specs.Steps.{row}
use Rattle.alignment.proofs.Stored.{entry, begins_room, order_read}
use Rattle.alignment.specs.Ready.{Begins}
use Rattle.alignment.proofs.row_entry.Goals as goal

module _ (w : List ℕ) (taken : PatternTaken w) (i : ℕ) where
  -- in a repeat the index is below the period
  below : i < length (row w true) → (i < period w) × (period w ≤ length w)
  below inside = (omega (arith, row_length w true taken.some), (period_facts w taken.some).within)

  -- else it is in the order
  in_order : i < length (row w false) → i < length w
  in_order inside = omega (arith, row_length w false taken.some)

  module _ (from : List ℤ) (ready : Begins (stored_order w) from) (inside : i < length (row w false)) where
    read : entry from i ≡ pos (get_or (order w) i 0)
    read = order_read w from ready taken.some taken.few i (in_order inside)

    in_buffer : i < length from
    in_buffer = omega (arith, in_order inside, stored_order_length w taken.some, begins_room (stored_order w) from ready)

    position : get_or (order w) i 0 < length w
    position = order_below w taken.some i (omega (arith, in_order inside, order_length w taken.some))

pub overflow_sub-result-then-repeat : goal.overflow_sub-result-then-repeat
overflow_sub-result-then-repeat c =
    let inside = rw c.if-repeat.true at c.requires.in_row in
    omega (arith, below c.args.pattern.now c.requires.taken c.args.i inside)

pub returns-then-repeat : goal.returns-then-repeat
returns-then-repeat c =
    let inside = rw c.if-repeat.true at c.requires.in_row in
    rw (c.if-repeat.true, row_repeat _ refl) (sym (repeat_row_entry _ _ (below c.args.pattern.now c.requires.taken c.args.i inside).0))

pub offset_bounds-order-i : goal.offset_bounds-order-i
offset_bounds-order-i c =
    let inside = rw c.if-repeat.false at c.requires.in_row in
    omega (arith, in_order c.args.pattern.now c.requires.taken c.args.i inside)

pub bounds-order-i : goal.bounds-order-i
bounds-order-i c =
    let inside = rw c.if-repeat.false at c.requires.in_row in
    in_buffer c.args.pattern.now c.requires.taken c.args.i c.args.order.now c.requires.ordered inside

pub overflow_cast-result : goal.overflow_cast-result
overflow_cast-result c =
    let inside = rw c.if-repeat.false at c.requires.in_row in
    let w = c.args.pattern.now in
    let i = c.args.i in
    let at-is = read w c.requires.taken i c.args.order.now c.requires.ordered inside in
    let below-m : get_or (order w) i 0 < length w = position w c.requires.taken i c.args.order.now c.requires.ordered inside in
    (rw at-is tt, rw at-is (omega arith))

pub returns : goal.returns
returns c =
    let inside = rw c.if-repeat.false at c.requires.in_row in
    rw (c.if-repeat.false, row_order _ refl)
    (ap nat_abs (read c.args.pattern.now c.requires.taken c.args.i c.args.order.now c.requires.ordered inside))
