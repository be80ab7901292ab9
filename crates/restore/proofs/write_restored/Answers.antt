-- `restore::write_restored` meets its contract. The loop's invariant: of the frames put back what
-- they have from `at` on is left to be written. Assumes nothing.
use Rattle.std.proofs.Common.{List, ℕ, ◌≡◌, ◌+◌, ◌≤◌, ◌<◌, length, get_or, set, drop, sym, ◌∙◌, arith}
use Rattle.std.proofs.Common.{add-one, drop-cons, drop_of_length-le}
use Rattle.answers.proofs.Partly.{put_front, PartlyWritten, none_written, one_more, all_written}
use Rattle.restore.proofs.write_restored.Goals as goal
use Rattle.restore_conversions.proofs.Numbered.{length_back, back_entry}
use Rattle.restore_conversions.specs.Restored.{restored_byte, all_restored}

-- one byte more
next :
    (held frames old text : List ℕ) (at c : ℕ) →
    PartlyWritten 0 old text (all_restored held frames) (drop at (all_restored held frames)) at → at < length frames → length frames ≤ length old →
    c ≡ restored_byte held (get_or frames at 0) →
    PartlyWritten 0 old (set text at c) (all_restored held frames) (drop (at + 1) (all_restored held frames)) (at + 1)
next held frames old text at c r inside room e =
    let here : c ≡ get_or (all_restored held frames) at 0 = e ∙ sym (back_entry held frames at) in
    let due = rw (drop-cons (all_restored held frames) at 0 (omega (arith, length_back held frames))) at r in
    rw (here, add-one) (rw add-one at (one_more 0 _ due (omega (arith, length_back held frames))))

pub loop-at-init : goal.loop-at-init
loop-at-init c = none_written 0 _ _

pub loop-at-preserved : goal.loop-at-preserved
loop-at-preserved c =
    next c.args.held.now c.args.frames.now _ _ _ _ c.loop-at.invariant (omega arith) (omega arith) c.restored_byte.ensures

pub returns : goal.returns
returns c =
    let all = all_restored c.args.held.now c.args.frames.now in
    let none = drop_of_length-le all {i = c.loop-at.at} (omega (arith, length_back c.args.held.now c.args.frames.now)) in
    put_front (all_written 0 _ (rw none at c.loop-at.invariant))
