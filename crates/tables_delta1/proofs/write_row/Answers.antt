-- `write_row` meets its contract. The loop's invariant: the positions from `at` on have lowered the
-- row. Assumes nothing.
use Rattle.std.proofs.Common.{List, ℕ, ◌≡◌, ◌+◌, ◌-◌, ◌<◌, length, get_or, sym, arith}
use native.Mathlib.Nat.{add-sub_cancel, add-sub_cancel_left}
use Rattle.tables_delta1.proofs.Links.{last_within}
use Rattle.tables_delta1.proofs.Settled.{RowSettled, row_first, row_next, row_right}
use Rattle.tables_delta1.specs.Rows.{last_below, Linked}
use Rattle.tables.specs.Sets.{byte}
use Rattle.tables_delta1.proofs.write_row.Goals as goal

-- the next position down is the last one below this one that has the byte
next_link :
    (w last row : List ℕ) (b at : ℕ) → Linked w (length w - 1) last → RowSettled w b at row → 0 < at →
    get_or last at 0 ≡ last_below w b (at - 1)
next_link w last row b at linked r h =
    let j = at - 1 in
    let one_up : j + 1 ≡ at = omega arith in
    rw (one_up, r.next_has j (sym one_up)) at (linked j (omega (arith, r.within)))

pub loop-at-init : goal.loop-at-init
loop-at-init c = row_first c.requires.within c.requires.entries c.requires.is_last c.requires.begun

pub loop-at-smaller : goal.loop-at-smaller
loop-at-smaller c =
    let w = c.args.pattern.now in
    let b = byte w c.args.position in
    omega (
      arith,
      next_link w c.args.last.now c.loop-at.row b c.loop-at.at c.requires.linked c.loop-at.invariant c.loop-at-test.true,
      last_within w b (c.loop-at.at - 1),
    )

pub loop-at-preserved : goal.loop-at-preserved
loop-at-preserved c =
    let w = c.args.pattern.now in
    let b = byte w c.args.position in
    rw (next_link w c.args.last.now c.loop-at.row b c.loop-at.at c.requires.linked c.loop-at.invariant c.loop-at-test.true)
    (row_next c.args.reversed.now c.loop-at.invariant c.loop-at-test.true c.requires.is_reversed c.requires.reversed_room
    (rw (add-sub_cancel, add-sub_cancel_left) at c.lower.ensures))

pub returns : goal.returns
returns c = let done : c.loop-at.at ≡ 0 = omega arith in row_right (rw done at c.loop-at.invariant)
