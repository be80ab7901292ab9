-- `alignment::repeat_shift` meets its contract: the entry that is read stands in its buffer, and is
-- the step's shift. Assumes nothing.
use Rattle.std.proofs.Common.{true, sym, ◌∙◌, arith}
use Rattle.tables.proofs.Periods.{period_facts}
use Rattle.steps.proofs.Steps.{step_shift_first}
use Rattle.steps.specs.Text.{shown}
use Rattle.alignment.proofs.Entries.{repeat_entry}
use Rattle.alignment.proofs.repeat_shift.Goals as goal

pub first_shift-requires-clause-within : goal.first_shift-requires-clause-within
first_shift-requires-clause-within c =
    let ready = c.requires.ready in
    omega (arith, ready.period_is, (period_facts _ ready.taken.some).within)

pub overflow_sub-job-else-agreed-eq0 : goal.overflow_sub-job-else-agreed-eq0
overflow_sub-job-else-agreed-eq0 c =
    let ready = c.requires.ready in
    omega (arith, ready.period_is, (period_facts _ ready.taken.some).within)

pub bounds-job-job : goal.bounds-job-job
bounds-job-job c =
    let ready = c.requires.ready in
    (repeat_entry ready.taken ready.delta3_ready ready.long c.requires.compared (omega arith)
    (omega (arith, ready.period_is))).inside

pub returns-then-agreed-eq0 : goal.returns-then-agreed-eq0
returns-then-agreed-eq0 c =
    let a = c.args in
    c.first_shift.ensures
    ∙ sym (step_shift_first (shown a.job.now.text.now) a.job.now.pattern.now a.b a.p true
    (sym c.requires.compared.count ∙ c.if-agreed-eq0.true))

pub returns-else-agreed-eq0 : goal.returns-else-agreed-eq0
returns-else-agreed-eq0 c =
    let ready = c.requires.ready in
    c.from.ensures
    ∙ (repeat_entry ready.taken ready.delta3_ready ready.long c.requires.compared (omega arith)
    (omega (arith, ready.period_is))).value_there
