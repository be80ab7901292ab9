-- `job_reader::is_line` meets its contract: two digits and the line end.
-- Assumes nothing.
use Rattle.std.proofs.Common.{sym, ◌∙◌}
use Rattle.hex_digits.proofs.Parse.{some_just}
use Rattle.job_reader.proofs.is_line.Goals as goal

pub returns-then-is_some : goal.returns-then-is_some
returns-then-is_some c = rw (sym (some_just _ c.pair.ensures) ∙ sym c.is_some.ensures ∙ c.if-is_some.true)

pub returns-else-is_some : goal.returns-else-is_some
returns-else-is_some c = rw (c.if-is_some.false, sym (some_just _ c.pair.ensures) ∙ sym c.is_some.ensures ∙ c.if-is_some.false)
