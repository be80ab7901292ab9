-- `explain_walk::approach` meets its contract. The loop keeps `Reaching`: it goes on by an
-- alignment that ends before b, and then by those that are passed over quickly. The measure is what
-- is left before b. Assumes nothing.
use Rattle.std.proofs.Common.{arith, refl, ◌∙◌, ap}
use Rattle.steps.proofs.Text.{span_ends}
use Rattle.alignment.proofs.Laying.{further, after_agreeing}
use Rattle.alignment.specs.declared.Laid.{Laid}
use Rattle.explain_walk.proofs.Reaching.{reaching_first, reaching_over}
use Rattle.explain_walk.proofs.approach.Goals as goal

pub loop-here-init : goal.loop-here-init
loop-here-init c = reaching_first c.requires.rows.taken c.args.b c.requires.inside

pub overflow_add-here : goal.overflow_add-here
overflow_add-here c = omega (arith, span_ends _ _ c.requires.rows.taken.some c.args.b c.requires.inside)

pub agreeing-agreed-requires-clause-inside : goal.agreeing-agreed-requires-clause-inside
agreeing-agreed-requires-clause-inside c = omega (arith, span_ends _ _ c.requires.rows.taken.some c.args.b c.requires.inside)

pub pass_occurrences-here-requires-clause-after_occurrence : goal.pass_occurrences-here-requires-clause-after_occurrence
pass_occurrences-here-requires-clause-after_occurrence c =
    ap (λ (y : Laid). y.repeat)
    (c.laid_after-next.ensures
    ∙ after_agreeing c.requires.rows.taken c.agreeing-agreed.ensures (c.if-agreed-row_length.true ∙ c.row_length.ensures))

pub pass_occurrences-here-requires-clause-reaching : goal.pass_occurrences-here-requires-clause-reaching
pass_occurrences-here-requires-clause-reaching c =
    reaching_over c.requires.rows.taken c.args.b c.requires.inside c.loop-here.invariant c.laid_after-next.ensures refl c.loop-here-test.true

pub pass_differing-here-requires-clause-reaching : goal.pass_differing-here-requires-clause-reaching
pass_differing-here-requires-clause-reaching c =
    reaching_over c.requires.rows.taken c.args.b c.requires.inside c.loop-here.invariant c.laid_after-next.ensures refl c.loop-here-test.true

pub loop-here-smaller-then-agreed-row_length : goal.loop-here-smaller-then-agreed-row_length
loop-here-smaller-then-agreed-row_length c = omega (arith, further c.requires.rows.taken c.loop-here.here c.laid_after-next.ensures)

pub loop-here-smaller : goal.loop-here-smaller
loop-here-smaller c = omega (arith, further c.requires.rows.taken c.loop-here.here c.laid_after-next.ensures)
