-- `explain_walk::reach` meets its contract. The loop keeps `Reaching`: it goes on by an alignment,
-- with what its comparisons spoil of b, until one reaches b. The measure is what is left before b.
-- Assumes nothing.
use Rattle.std.proofs.Common.{◌≡◌, arith}
use Rattle.steps.specs.Text.{shown}
use Rattle.alignment.proofs.Laying.{further}
use Rattle.explain_meaning.specs.Explanation.{first_spoilt}
use Rattle.explain_walk.proofs.Reaching.{made, reaching_on, spoilt_before, spoilt_here, reached}
use Rattle.explain_walk.proofs.reach.Goals as goal
use Rattle.explain_walk.proofs.reach.Goals.{then-spoilt-m, else-spoilt-m}

pub returns-then-b-next : goal.returns-then-b-next
returns-then-b-next c =
    let r = c.requires in
    let so_far = c.loop-spoilt.invariant in
    let w = c.args.job.now.pattern.now in
    let b = c.args.b in
    let all = made r.rows.taken b r.inside so_far in
    let spoilt : c.if-spoilt-m.spoilt ≡ first_spoilt (shown c.args.job.now.text.now) w b all =
    elim c.if-spoilt-m.branch [
      | then-spoilt-m w ↦ rw w.spoilt-is (spoilt_here r.rows.taken _ r.inside so_far w.if-spoilt-m.true w.spoilt_by-spoilt.ensures)
      | else-spoilt-m w ↦ rw w.spoilt-is (spoilt_before r.rows.taken _ r.inside so_far w.if-spoilt-m.false)
    ] in
    reached r.rows.taken b r.inside so_far c.agreeing-agreed.ensures spoilt
    c.laid_after-next.ensures c.if-b-next.true

pub loop-spoilt-smaller : goal.loop-spoilt-smaller
loop-spoilt-smaller c = omega (arith, further c.requires.rows.taken c.loop-spoilt.here c.laid_after-next.ensures)

pub loop-spoilt-preserved : goal.loop-spoilt-preserved
loop-spoilt-preserved c =
    let r = c.requires in
    let so_far = c.loop-spoilt.invariant in
    let w = c.args.job.now.pattern.now in
    let b = c.args.b in
    let all = made r.rows.taken b r.inside so_far in
    let spoilt : c.if-spoilt-m.spoilt ≡ first_spoilt (shown c.args.job.now.text.now) w b all =
    elim c.if-spoilt-m.branch [
      | then-spoilt-m w ↦ rw w.spoilt-is (spoilt_here r.rows.taken _ r.inside so_far w.if-spoilt-m.true w.spoilt_by-spoilt.ensures)
      | else-spoilt-m w ↦ rw w.spoilt-is (spoilt_before r.rows.taken _ r.inside so_far w.if-spoilt-m.false)
    ] in
    reaching_on r.rows.taken c.args.b r.inside so_far c.laid_after-next.ensures c.if-b-next.false spoilt
