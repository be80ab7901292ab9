-- `explain_walk::pass_differing` meets its contract. The loop keeps `Reaching`, and each turn is
-- the law of an alignment whose first comparison differs. The measure is what is left before b.
-- Assumes nothing.
use Rattle.std.proofs.Common.{arith}
use Rattle.steps.proofs.Text.{span_ends}
use Rattle.explain_walk.proofs.Passing.{passed_differing}
use Rattle.explain_walk.proofs.pass_differing.Goals as goal

pub overflow_add-next : goal.overflow_add-next
overflow_add-next c = omega (arith, span_ends _ _ c.requires.taken.some c.args.b c.requires.inside)

pub bounds-text-next : goal.bounds-text-next
bounds-text-next c = omega (arith, span_ends _ _ c.requires.taken.some c.args.b c.requires.inside)

pub first_shift-shift-requires-clause-inside : goal.first_shift-shift-requires-clause-inside
first_shift-shift-requires-clause-inside c = omega (arith, span_ends _ _ c.requires.taken.some c.args.b c.requires.inside)

pub after-next-requires : goal.after-next-requires
after-next-requires c =
    let r = c.requires in
    let passed =
    passed_differing r.taken c.args.b r.inside c.loop-next.invariant.reaching c.loop-next-test.true
    c.if-text-next.true c.first_shift-shift.ensures in
    omega (arith, passed.low, span_ends _ _ r.taken.some c.args.b r.inside, r.taken)

pub loop-next-smaller : goal.loop-next-smaller
loop-next-smaller c =
    let r = c.requires in
    let passed =
    passed_differing r.taken c.args.b r.inside c.loop-next.invariant.reaching c.loop-next-test.true
    c.if-text-next.true c.first_shift-shift.ensures in
    rw c.after-next.ensures (omega (arith, passed.low, passed.right.positive))

pub loop-next-preserved : goal.loop-next-preserved
loop-next-preserved c =
    let r = c.requires in
    let passed =
    passed_differing r.taken c.args.b r.inside c.loop-next.invariant.reaching c.loop-next-test.true
    c.if-text-next.true c.first_shift-shift.ensures in
    rw c.after-next.ensures (record { reaching = passed; forward = omega arith })
