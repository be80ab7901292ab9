-- `rules_frames::write_frames` meets its contract. The loop's invariant: the holds of the rules
-- before rule i are marked over the moves (`UnderWay`). Assumes nothing.
use Rattle.std.proofs.Common.{◌∙◌, arith}
use Rattle.rules.proofs.Taken.{table_patterned}
use Rattle.rules.specs.Rules.{rules_of}
use Rattle.rules_frames.proofs.Written.{none_marked, one_marked, all_marked, part_inside, part_few, inside}
use Rattle.rules_frames.proofs.Written.{rule_frames_in_front}
use Rattle.rules_frames.proofs.write_frames.Goals as goal

pub loop-i-init : goal.loop-i-init
loop-i-init c = none_marked c.requires c.count.ensures.answer

pub hold_offset-q-requires : goal.hold_offset-q-requires
hold_offset-q-requires c = inside c.loop-i.invariant c.loop-i-test.true

pub slice_bounds-mark_holds-end : goal.slice_bounds-mark_holds-end
slice_bounds-mark_holds-end c = omega (arith, part_inside c.loop-i.invariant c.loop-i-test.true)

pub mark_holds-requires-clause-few : goal.mark_holds-requires-clause-few
mark_holds-requires-clause-few c = part_few c.loop-i.invariant c.loop-i-test.true

pub loop-i-preserved : goal.loop-i-preserved
loop-i-preserved c = one_marked c.loop-i.invariant c.loop-i-test.true c.hold_offset-q.ensures c.mark_holds.ensures

pub returns : goal.returns
returns c =
    all_marked c.loop-i.invariant c.loop-i-test.false
    ∙ rw c.write_moves.ensures
    (rule_frames_in_front (rules_of c.args.rules.now) c.args.text.now c.args.frames.now
    (table_patterned c.args.rules.now c.count.ensures.taken))
