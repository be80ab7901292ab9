-- `turn::write_in_order` meets its contract. The loop's invariant: past those copied, the turned
-- bytes from copied + i on are left to be written. Assumes nothing.
use Rattle.std.proofs.Common.{◌≡◌, ℕ, ◌+◌, ◌-◌, ◌≤◌, ◌<◌, suc, List, arith, ◌∙◌, length, drop, take, get_or-take, get_or-drop, length-drop, add-one, add-zero, drop-cons, drop_of_length-le}
use Rattle.answers.proofs.Partly.{none_written, one_more, all_written}
use Rattle.answers.specs.Buffers.{in_front}
use Rattle.copy_blocks.proofs.Blocks.{front_kept, rest_written}
use Rattle.turn.proofs.Turned.{length_turned, entry_in_order}
use Rattle.turn.specs.Turned.{turned}
use Rattle.turn.specs.Ways.{way_number}
use Rattle.turn.proofs.write_in_order.Goals as goal

-- the buffer that some bytes are copied to has room for what is left past them
room :
    (turned old new : List ℕ) (copied : ℕ) → copied ≤ length turned → length turned ≤ length old → new ≡ in_front (take copied turned) old →
    copied + length (drop copied turned) ≤ length new
room turned old new copied h fits e = omega (arith, front_kept turned old new copied h fits e, length-drop copied turned)

pub loop-i-init : goal.loop-i-init
loop-i-init c = rw add-zero (none_written _ _ _)

pub loop-i-preserved : goal.loop-i-preserved
loop-i-preserved c =
    let way = way_number c.args.way in
    let bytes = c.args.bytes.now in
    let copied = c.copy_unturned-copied.result in
    let i = copied + c.loop-i.i in
    let size : length (turned way bytes) ≡ length bytes = length_turned way bytes in
    let fits = room (turned way bytes) _ _ copied (omega arith) (omega arith) c.copy_unturned-copied.ensures.copied in
    let inside : i < length bytes = omega (arith, length-drop copied bytes) in
    let due = rw (drop-cons (turned way bytes) i 0 (omega arith), entry_in_order way bytes c.requires.in_order i inside) at c.loop-i.invariant in
    let read = get_or-take (length bytes - copied) (drop copied bytes) c.loop-i.i 0 (omega arith) ∙ get_or-drop copied bytes c.loop-i.i 0 in
    let next : copied + (c.loop-i.i + 1) ≡ suc i = omega arith in
    rw (c.turned_byte.ensures, read, next) (rw add-one at (one_more copied _ due fits))

pub returns : goal.returns
returns c =
    let way = way_number c.args.way in
    let bytes = c.args.bytes.now in
    let copied = c.copy_unturned-copied.result in
    let size : length (turned way bytes) ≡ length bytes = length_turned way bytes in
    let none = drop_of_length-le (turned way bytes) {i = copied + c.loop-i.i} (omega (arith, length-drop copied bytes)) in
    rest_written (turned way bytes) _ _ _ copied _ (omega arith) c.copy_unturned-copied.ensures.copied
    (all_written _ _ (rw none at c.loop-i.invariant))
