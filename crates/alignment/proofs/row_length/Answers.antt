-- `alignment::row_length` meets its contract: a repeat's row has p positions, the order m. Assumes
-- nothing.
use Rattle.std.proofs.Common.{true, false, sym, ◌∙◌}
use Rattle.steps.proofs.Rows.{row_length}
use Rattle.alignment.proofs.row_length.Goals as goal

pub returns-then-repeat : goal.returns-then-repeat
returns-then-repeat c = rw c.if-repeat.true (c.requires.period ∙ sym (row_length _ true c.requires.taken.some))

pub returns : goal.returns
returns c = rw c.if-repeat.false (sym (row_length _ false c.requires.taken.some))
