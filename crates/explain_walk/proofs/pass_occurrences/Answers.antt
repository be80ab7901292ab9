-- `explain_walk::pass_occurrences` meets its contract. The loop keeps `Reaching`, and each turn is
-- the law of an alignment of which all agree. The measure is what is left before b. Assumes
-- nothing.
use Rattle.std.proofs.Common.{◌+◌, arith, length, refl}
use Rattle.steps.proofs.Text.{span_ends}
use Rattle.alignment.specs.Laid.{laid_at}
use Rattle.explain_walk.proofs.Passing.{passed_occurrence}
use Rattle.explain_walk.specs.Reach.{Reaching}
use Rattle.explain_walk.proofs.pass_occurrences.Goals as goal
use Rattle.explain_walk.proofs.pass_occurrences.Goals.{Then-agreeing-count}

-- the alignment is passed over
passed :
    (c : Then-agreeing-count) → let w = c.args.job.now.pattern.now in let p = c.args.p in
    Reaching w c.args.job.now.text.now c.args.b
    (laid_at (c.loop-next.next.position + p) p c.args.here.repeat) (length w)
passed c =
    let r = c.requires in
    let so_far = c.loop-next.invariant in
    passed_occurrence r.ready.taken c.args.b r.inside so_far.same_row r.after_occurrence
    so_far.reaching c.loop-next-test.true c.agreeing.ensures c.row_length-count.ensures
    c.if-agreeing-count.true r.ready.period_is

pub overflow_add-next : goal.overflow_add-next
overflow_add-next c = omega (arith, span_ends _ _ c.requires.ready.taken.some c.args.b c.requires.inside)

pub agreeing-requires-clause-inside : goal.agreeing-requires-clause-inside
agreeing-requires-clause-inside c = omega (arith, span_ends _ _ c.requires.ready.taken.some c.args.b c.requires.inside)

pub after-next-requires : goal.after-next-requires
after-next-requires c =
    let taken = c.requires.ready.taken in
    omega (arith, (passed c).low, span_ends _ _ taken.some c.args.b c.requires.inside, taken)

pub loop-next-smaller : goal.loop-next-smaller
loop-next-smaller c =
    let on = passed c.before in
    rw c.after-next.ensures (omega (arith, on.low, on.right.positive))

pub loop-next-preserved : goal.loop-next-preserved
loop-next-preserved c =
    rw c.after-next.ensures
    (record { reaching = passed c.before; same_row = refl; forward = omega arith })
