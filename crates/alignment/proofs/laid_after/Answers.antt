-- `alignment::laid_after` meets its contract: the shift and the repeat after it are the step's.
-- Assumes nothing.
use Rattle.std.proofs.Common.{◌∙◌, arith}
use Rattle.tables.proofs.Periods.{period_facts}
use Rattle.steps.proofs.Text.{span_ends}
use Rattle.alignment.proofs.Laying.{laid_so, right_after}
use Rattle.alignment.proofs.laid_after.Goals as goal

pub after-requires : goal.after-requires
after-requires c =
    let ready = c.requires.ready in
    let within = (right_after ready.taken c.args.here c.requires.right).within in
    omega (
      arith,
      span_ends _ _ ready.taken.some _ c.requires.compared.inside,
      c.shift_of-shift.ensures,
      within,
    )

pub overflow_mul-p : goal.overflow_mul-p
overflow_mul-p c =
    let ready = c.requires.ready in
    omega (arith, ready.period_is, (period_facts _ ready.taken.some).within)

pub returns : goal.returns
returns c =
    c.after.ensures
    ∙ laid_so _ _ _ _ _ _ _ c.shift_of-shift.ensures c.requires.compared c.row_length.ensures
    c.requires.ready.period_is
