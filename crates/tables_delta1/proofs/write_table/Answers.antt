-- `write_table` meets its contract: the table is filled with m, the links give the rows' ends, and
-- the rows follow. Assumes nothing.
use Rattle.std.proofs.Common.{arith}
use lib.ListN.{get_or-replicate}
use Rattle.tables_delta1.proofs.Links.{filled_ends}
use Rattle.tables_delta1.proofs.Stored.{right_stored}
use Rattle.tables_delta1.proofs.write_table.Goals as goal

pub reverse-requires-clause-filled : goal.reverse-requires-clause-filled
reverse-requires-clause-filled c = λ x h. get_or-replicate 256 x 256 0 (omega arith)

pub link-requires-clause-ends : goal.link-requires-clause-ends
link-requires-clause-ends c = filled_ends _ _ (omega arith) (c.fill.ensures.after (λ y e. e))

pub returns : goal.returns
returns c = right_stored _ _ c.write_rows.ensures (omega arith) (omega arith)
