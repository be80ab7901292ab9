-- `alignment::shift_of` meets its contract: the entry that is read stands in its buffer, and is the
-- step's shift. Assumes nothing.
use Rattle.std.proofs.Common.{sym, ◌∙◌, arith}
use Rattle.steps.proofs.Steps.{step_shift_first}
use Rattle.steps.specs.Text.{shown}
use Rattle.alignment.proofs.Entries.{order_entry}
use Rattle.alignment.proofs.Laying.{agreed_few, agreed_small, by_period, repeat_row}
use Rattle.alignment.proofs.shift_of.Goals as goal

-- all of a repeat's row agree
pub returns-then-agreed-p : goal.returns-then-agreed-p
returns-then-agreed-p c =
    let ready = c.requires.ready in
    let row_is = repeat_row ready.taken c.requires.right ready.period_is c.if-here.true in
    ready.period_is ∙ sym (by_period ready.taken c.requires.compared (c.if-agreed-p.true ∙ sym row_is))

-- or one differs
pub repeat_shift-requires-clause-differs : goal.repeat_shift-requires-clause-differs
repeat_shift-requires-clause-differs c =
    let ready = c.requires.ready in
    omega (
      arith,
      agreed_few ready.taken c.requires.compared,
      repeat_row ready.taken c.requires.right ready.period_is c.if-here.true,
    )

-- one by the order whose first comparison differs
pub returns-then-agreed-eq0 : goal.returns-then-agreed-eq0
returns-then-agreed-eq0 c =
    let a = c.args in
    c.first_shift.ensures
    ∙ sym (step_shift_first (shown a.job.now.text.now) a.job.now.pattern.now a.here.position
    a.here.shift a.here.repeat (sym c.requires.compared.count ∙ c.if-agreed-eq0.true))

-- or a later one
pub offset_bounds-job-agreed : goal.offset_bounds-job-agreed
offset_bounds-job-agreed c = omega (arith, agreed_small c.requires.ready.taken c.requires.compared)

pub bounds-job-agreed : goal.bounds-job-agreed
bounds-job-agreed c =
    let ready = c.requires.ready in
    (order_entry ready.taken c.if-here.false ready.delta2_ready c.requires.compared
    (omega arith)).inside

pub returns : goal.returns
returns c =
    let ready = c.requires.ready in
    c.from.ensures
    ∙ (order_entry ready.taken c.if-here.false ready.delta2_ready c.requires.compared
    (omega arith)).value_there
