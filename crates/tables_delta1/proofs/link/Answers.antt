-- `link` meets its contract. The loop's invariant: the positions below i are linked, and the rows'
-- ends are right for them. Assumes nothing.
use Rattle.std.proofs.Common.{List, ℕ, ◌≡◌, ◌+◌, ◌*◌, ◌-◌, ◌≤◌, ◌<◌, length, get_or, arith}
use Rattle.tables_delta1.proofs.Fronts.{front_length, front_byte}
use Rattle.tables_delta1.proofs.Grid.{row_end}
use Rattle.tables_delta1.proofs.Links.{end_entry, link_added, end_added}
use Rattle.tables_delta1.specs.Rows.{last_below, RowEnds}
use Rattle.tables.specs.Sets.{byte}
use Rattle.tables_delta1.proofs.link.Goals as goal

-- what stands at the end of the row of a byte is what the link of i leaves of m
at_end :
    (w table : List ℕ) (i : ℕ) → RowEnds w i table → i < length w → byte w i < 256 →
    get_or table (byte w i * length w + length w - 1) 0 + last_below w (byte w i) i ≡ length w
at_end w table i r h b = end_entry w (byte w i) i _ table (λ x. r.ends (byte w i) x b) h (omega arith)

pub overflow_sub-last : goal.overflow_sub-last
overflow_sub-last c =
    let w = c.args.pattern.now in
    let i = c.loop-i.i in
    let inside : i < length w = omega (arith, front_length w) in
    rw (front_byte w i c.loop-i-test.true)
    (omega (arith, at_end w c.loop-i.table i c.loop-i.invariant.ends inside (omega (arith, c.type_inv.pattern i))))

pub loop-i-preserved : goal.loop-i-preserved
loop-i-preserved c =
    let w = c.args.pattern.now in
    let i = c.loop-i.i in
    let inside : i + 1 < length w = omega (arith, front_length w) in
    let fits : byte w i < 256 = omega (arith, c.type_inv.pattern i) in
    let end = byte w i * length w + length w - 1 in
    let here = at_end w c.loop-i.table i c.loop-i.invariant.ends (omega arith) fits in
    let link : length w - get_or c.loop-i.table end 0 ≡ last_below w (byte w i) i = omega arith in
    let within : byte w i * length w + length w ≤ 256 * length w = row_end (length w) (byte w i) 256 fits in
    rw (front_byte w i c.loop-i-test.true)
    (record {
      linked = rw link (link_added w i c.loop-i.last c.loop-i.invariant.linked (omega arith));
      ends = end_added c.loop-i.invariant.ends end inside (omega arith) (omega arith);
    })
