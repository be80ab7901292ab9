-- `write_delta1` meets its contract: the table is written in front, and the other entries are not
-- lent. Assumes nothing.
use Rattle.answers.specs.Buffers.{in_front}
use Rattle.tables.proofs.Stored.{stored_Δ1_length}
use Rattle.tables_delta1.proofs.write_delta1.Goals as goal

pub returns : goal.returns
unfolding in_front
returns c = rw (c.write_table.ensures, stored_Δ1_length)
