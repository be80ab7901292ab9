-- `prepare::write_tables` meets its contract: each table is written by its own function, and the
-- period stands in Δ2. Assumes nothing.
use Rattle.prepare.proofs.write_tables.Goals as goal
use Rattle.tables.proofs.Rooms.{period_written}
use Rattle.tables.specs.Buffers.{tables, TablesWritten}

pub returns-clause-period : goal.returns-clause-period
returns-clause-period c =
    let a = c.args in
    let all : TablesWritten a.pattern.now (tables a.order.now a.delta2.now a.delta1.now a.delta3.now) (tables _ _ _ _) = record {
      order = c.write_order_and_shifts.ensures.order_left;
      delta2 = c.write_order_and_shifts.ensures.delta2_left;
      delta1 = c.write_delta1.ensures;
      delta3 = c.write_order_and_shifts.ensures.delta3_left;
    } in
    period_written c.requires.taken all
