-- `tables_delta3::write_delta3` meets its contract: the table is written in front, and the other
-- entries are not lent. Assumes nothing.
use Rattle.answers.specs.Buffers.{in_front}
use Rattle.tables.proofs.RepeatShift.{stored_Δ3_length}
use Rattle.tables_delta3.proofs.write_delta3.Goals as goal

pub returns : goal.returns
unfolding in_front
returns c = rw (c.write_table.ensures, stored_Δ3_length)
