-- `explain_walk::spoilt_by` meets its contract. The loop over the comparisons keeps that those
-- before it spoil nothing, and each turn adds one or ends. Assumes nothing.
use Rattle.std.proofs.Common.{◌≡◌, ◌+◌, ◌<◌, ◌∙◌, arith, get_or, length}
use Rattle.steps.proofs.Rows.{row_below}
use Rattle.steps.proofs.Text.{span_ends}
use Rattle.steps.specs.Steps.{row}
use Rattle.alignment.proofs.Laying.{agreed_small}
use Rattle.explain_walk.proofs.Row.{clear_all, spoils_here}
use Rattle.explain_walk.proofs.spoilt_by.Goals as goal

pub overflow_add-agreed : goal.overflow_add-agreed
overflow_add-agreed c = omega (arith, agreed_small c.requires.ready.taken c.requires.compared)

pub overflow_add-x : goal.overflow_add-x
overflow_add-x c =
    let w = c.args.job.now.pattern.now in
    let in_row : c.loop-i.i < length (row w c.args.here.repeat) = omega arith in
    omega (
      arith,
      row_below _ _ c.requires.ready.taken.some c.loop-i.i in_row,
      span_ends _ _ c.requires.ready.taken.some c.args.here.position c.requires.compared.inside,
    )

pub byte_at-requires : goal.byte_at-requires
byte_at-requires c = omega (arith, span_ends _ _ c.requires.ready.taken.some c.args.here.position c.requires.compared.inside)

pub bounds-pattern-x : goal.bounds-pattern-x
bounds-pattern-x c =
    let w = c.args.job.now.pattern.now in
    let in_row : c.loop-i.i < length (row w c.args.here.repeat) = omega arith in
    omega (arith, row_below _ _ c.requires.ready.taken.some c.loop-i.i in_row)

-- a comparison spoils b
pub returns-then-byte_at-pattern : goal.returns-then-byte_at-pattern
returns-then-byte_at-pattern c =
    let w = c.args.job.now.pattern.now in
    let x = c.args.here in
    let in_row : c.loop-i.i < length (row w x.repeat) = omega arith in
    let at : x.position + c.row_entry.result ≡ x.position + get_or (row w x.repeat) c.loop-i.i 0 =
    omega arith in
    spoils_here c.requires.ready.taken x c.requires.compared c.args.b c.loop-i.invariant in_row at
    (omega arith) c.requires.not_past c.if-b-x.true
    (λ e. c.if-byte_at-pattern.true (c.byte_at.ensures ∙ e))

-- all are clear, since the row or what was compared ends
pub returns : goal.returns
returns c =
    clear_all c.requires.ready.taken c.args.here c.requires.compared c.args.b c.loop-i.i c.loop-i.invariant (λ k l u. omega arith)
