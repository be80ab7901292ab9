-- `explain_position::explain_at` meets its contract: the alignment that reaches b lists, tries or
-- passes it. By the laws of what it tells. Assumes nothing.
use Rattle.std.proofs.Common.{arith}
use Rattle.steps.proofs.Rows.{row_below}
use Rattle.steps.proofs.Text.{span_ends}
use Rattle.explain_position.proofs.Told.{passed_over, listed, tried, fewer}
use Rattle.explain_position.proofs.explain_at.Goals as goal

pub overflow_cast-result : goal.overflow_cast-result
overflow_cast-result c = omega (arith, span_ends _ _ c.requires.rows.taken.some c.args.b c.requires.inside)

pub returns-then-reached-b : goal.returns-then-reached-b
returns-then-reached-b c =
    passed_over c.requires.rows.taken c.reach-reached.ensures c.row_length-count.ensures c.if-reached-b.true c.kind_of.ensures

-- the pattern is laid at b
pub returns-then-agreed-count : goal.returns-then-agreed-count
returns-then-agreed-count c =
    listed c.requires.rows.taken c.reach-reached.ensures c.row_length-count.ensures (λ l. omega arith) c.if-agreed-count.true

pub row_entry-requires-clause-in_row : goal.row_entry-requires-clause-in_row
row_entry-requires-clause-in_row c =
    fewer c.requires.rows.taken c.reach-reached.ensures c.row_length-count.ensures c.if-agreed-count.false

-- the position that differs is one of the pattern
pub overflow_cast-result-2 : goal.overflow_cast-result-2
overflow_cast-result-2 c =
    let in_row = fewer c.requires.rows.taken c.reach-reached.ensures c.row_length-count.ensures c.if-agreed-count.false in
    omega (arith, row_below _ _ c.requires.rows.taken.some _ in_row)

pub returns : goal.returns
returns c =
    tried c.requires.rows.taken c.reach-reached.ensures c.row_length-count.ensures (λ l. omega arith) c.if-agreed-count.false
    c.row_entry.ensures
