-- `write_rows` meets its contract. The loop's invariant: the rows are right of which the last
-- position that has the byte is below i. Assumes nothing.
use Rattle.std.proofs.Common.{◌≡◌, ◌+◌, ◌-◌, ◌<◌, length, arith}
use native.Mathlib.Nat.{add-sub_cancel_left}
use Rattle.tables_delta1.proofs.Fronts.{front_length, front_byte}
use Rattle.tables_delta1.proofs.Table.{table_first, table_right, row_begun, row_written, row_passed}
use Rattle.tables.specs.Sets.{byte}
use Rattle.tables_delta1.proofs.write_rows.Goals as goal
use Rattle.tables_delta1.proofs.write_rows.Goals.{then-table-end, else-table-end}

pub loop-i-init : goal.loop-i-init
loop-i-init c = table_first c.requires.sizes.entries c.requires.ends

pub write_row-requires : goal.write_row-requires
write_row-requires c =
    let w = c.args.pattern.now in
    let i = c.loop-i.i in
    let here = front_byte w i c.loop-i-test.true in
    rw (here, add-sub_cancel_left)
    (row_begun c.loop-i.invariant (omega (arith, front_length w)) (omega (arith, c.type_inv.pattern i)) c.requires
    (rw here at c.if-table-end.true))

pub loop-i-preserved : goal.loop-i-preserved
loop-i-preserved c =
    let w = c.args.pattern.now in
    let i = c.loop-i.i in
    let settled = c.loop-i.invariant in
    let here = front_byte w i c.loop-i-test.true in
    let inside : i + 1 < length w = omega (arith, front_length w) in
    let fits : byte w i < 256 = omega (arith, c.type_inv.pattern i) in
    elim c.if-table-end.branch [
      | then-table-end v ↦
          let kept = rw (here, add-sub_cancel_left) at v.write_row.auto.row in
          rw (v.table-is, here, add-sub_cancel_left) (row_written settled inside fits v.write_row.new.row kept v.write_row.ensures)
      | else-table-end v ↦ rw v.table-is (row_passed settled inside fits (rw here at v.if-table-end.false))
    ]

pub returns : goal.returns
returns c =
    let done : c.loop-i.i ≡ length c.args.pattern.now - 1 = omega (arith, front_length c.args.pattern.now) in
    table_right (rw done at c.loop-i.invariant)
