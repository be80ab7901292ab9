-- `search::search_within` meets its contract: the tables are written, the steps run by them, and
-- the bound worked out from what they count. By the laws of a search that is taken and done.
-- Assumes nothing.
use Rattle.std.proofs.Common.{arith}
use Rattle.search.proofs.Searched.{run_ready, bound_ready, done}
use Rattle.search.proofs.search_within.Goals as goal

pub run_steps-counts-requires : goal.run_steps-counts-requires
run_steps-counts-requires c = run_ready c.write_tables-period.ensures.written c.requires

pub overflow_cast-span : goal.overflow_cast-span
overflow_cast-span c =
    omega (arith, c.span-span.ensures, bound_ready c.requires c.write_tables-period.ensures.period c.run_steps-counts.ensures)

pub comparison_bound-bound-requires-clause-short_span :
    goal.comparison_bound-bound-requires-clause-short_span
comparison_bound-bound-requires-clause-short_span c =
    omega (arith, c.span-span.ensures, bound_ready c.requires c.write_tables-period.ensures.period c.run_steps-counts.ensures)

pub comparison_bound-bound-requires-clause-few : goal.comparison_bound-bound-requires-clause-few
comparison_bound-bound-requires-clause-few c =
    omega (arith, c.span-span.ensures, bound_ready c.requires c.write_tables-period.ensures.period c.run_steps-counts.ensures)

pub comparison_bound-bound-requires-clause-period :
    goal.comparison_bound-bound-requires-clause-period
comparison_bound-bound-requires-clause-period c =
    omega (arith, bound_ready c.requires c.write_tables-period.ensures.period c.run_steps-counts.ensures)

pub returns : goal.returns
returns c =
    rw c.searched.ensures
    (done c.write_tables-period.ensures.written c.write_tables-period.ensures.period c.run_steps-counts.ensures c.span-span.ensures
    c.comparison_bound-bound.ensures)
