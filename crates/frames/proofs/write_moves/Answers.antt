-- `frames::write_moves` meets its contract. The loop's invariant: of the text what it has from `at` on is left to be written.
-- Assumes nothing.
use Rattle.std.proofs.Common.{arith, add-one, drop-cons, drop_of_length-le}
use Rattle.answers.proofs.Partly.{put_front, none_written, one_more, all_written}
use Rattle.frames.proofs.write_moves.Goals as goal

pub loop-at-init : goal.loop-at-init
loop-at-init c = none_written 0 _ _

pub loop-at-preserved : goal.loop-at-preserved
loop-at-preserved c =
    let due = rw (drop-cons c.args.text.now c.loop-at.at 0 (omega arith)) at c.loop-at.invariant in
    rw (add-one, c.from.ensures) (rw add-one at (one_more 0 _ due (omega arith)))

pub returns : goal.returns
returns c =
    let none = drop_of_length-le c.args.text.now {i = c.loop-at.at} (omega arith) in
    put_front (all_written 0 _ (rw none at c.loop-at.invariant))
