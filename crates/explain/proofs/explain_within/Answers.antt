-- `explain::explain_within` meets its contract: the tables are written, and the walk goes by them.
-- By the laws of a call that is taken and done. Assumes nothing.
use Rattle.explain.proofs.Taken.{explain_fit, reach_ready, done}
use Rattle.explain.proofs.explain_within.Goals as goal

pub write_tables-p-requires : goal.write_tables-p-requires
write_tables-p-requires c = (explain_fit c.requires).tables

pub explain_at-told-requires : goal.explain_at-told-requires
explain_at-told-requires c = reach_ready c.write_tables-p.ensures.written (explain_fit c.requires) c.write_tables-p.ensures.period

pub returns : goal.returns
returns c =
    rw (c.from.ensures, c.requires)
    (done c.write_tables-p.ensures.written c.explain_at-told.ensures)
