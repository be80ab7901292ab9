-- `run_steps::run_inside` meets its contract. The loop over the alignments keeps `Moved`, the loop
-- over the comparisons of one `Comparing`, and each turn is one law of these. The measures are what
-- is left of the text and of the pattern. Assumes nothing.
use Rattle.std.proofs.Common.{refl, arith}
use Rattle.steps.proofs.Text.{span_few}
use Rattle.run_state.proofs.Moved.{moved_none, moved_on, moved_then, first_standing}
use Rattle.run_steps.proofs.Comparing.{comparing_first, in_buffer, comparing_all, in_order, in_pattern, comparing_more, comparing_stop}
use Rattle.run_steps.proofs.run_inside.Goals as goal
use Rattle.run_steps.proofs.run_inside.Goals.{then-h-lt0, else-h-lt0+then-pattern-at}

pub alignments-init : goal.alignments-init
alignments-init c =
    let taken = c.requires.shifts.tables.taken in
    record { moved = moved_none taken _ _ (first_standing taken); followed = λ l. refl }

pub loop-pattern-init : goal.loop-pattern-init
loop-pattern-init c = comparing_first _ c.requires.shifts.tables.taken c.requires.order_ready c.pass_differing-run.ensures

pub overflow_add-b : goal.overflow_add-b
overflow_add-b c =
    let taken = c.requires.shifts.tables.taken in
    let stands = c.pass_differing-run.ensures.stretch.standing in
    omega (arith, stands.inside, span_few c.args.job.now.pattern.now c.args.job.now.text.now taken.some, taken.text, taken.few)

pub bounds-order-i : goal.bounds-order-i
bounds-order-i c = in_buffer _ c.requires.shifts.tables.taken c.requires.order_ready c.loop-pattern.invariant

-- an entry that is a position is inside the pattern, and so is its place in the order
pub bounds-pattern-at : goal.bounds-pattern-at
bounds-pattern-at c =
    in_pattern c.args.job.now.order.now c.requires.shifts.tables.taken c.requires.order_ready c.loop-pattern.invariant c.if-text-b.false c.if-h-lt0.false

pub bounds-text-b : goal.bounds-text-b
bounds-text-b c =
    omega (
      arith,
      in_pattern c.args.job.now.order.now c.requires.shifts.tables.taken c.requires.order_ready c.loop-pattern.invariant c.if-text-b.false c.if-h-lt0.false,
    )

pub loop-pattern-smaller : goal.loop-pattern-smaller
loop-pattern-smaller c =
    omega (
      arith,
      in_order c.args.job.now.order.now c.requires.shifts.tables.taken c.requires.order_ready c.loop-pattern.invariant c.if-text-b.false c.if-h-lt0.false,
    )

pub loop-pattern-preserved : goal.loop-pattern-preserved
loop-pattern-preserved c =
    comparing_more c.args.job.now.order.now c.requires.shifts.tables.taken c.requires.order_ready c.loop-pattern.invariant c.if-text-b.false c.if-h-lt0.false
    c.if-pattern-at.false

-- however the comparisons end, so many of them agree
pub move_on-run-requires-clause-compared : goal.move_on-run-requires-clause-compared
move_on-run-requires-clause-compared c =
    let taken = c.requires.shifts.tables.taken in
    let by_order = c.pass_differing-run.ensures.followed c.if-text-b.false in
    elim c.if-h-lt0.branch [
      | then-h-lt0 x ↦
          rw x.agreed-is
          (comparing_all c.args.job.now.order.now taken c.requires.order_ready c.loop-pattern.invariant c.if-text-b.false by_order x.if-h-lt0.true)
      | else-h-lt0+then-pattern-at x ↦
          rw x.agreed-is
          (comparing_stop c.args.job.now.order.now taken c.requires.order_ready c.loop-pattern.invariant c.if-text-b.false x.if-h-lt0.false by_order
          x.if-pattern-at.true)
    ]

pub alignments-preserved : goal.alignments-preserved
alignments-preserved c =
    let shifts = c.requires.shifts in
    let passed = moved_on shifts.tables.taken shifts.room c.alignments.invariant.moved c.pass_differing-run.ensures.stretch in
    record {
      moved = moved_then shifts.tables.taken shifts.room passed c.move_on-run.ensures.moved;
      followed = c.move_on-run.ensures.followed;
    }
