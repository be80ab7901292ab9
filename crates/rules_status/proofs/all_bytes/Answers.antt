-- `rules_status::all_bytes` meets its contract. The loop's invariant: the patterns before rule i
-- have `sum` bytes. Assumes nothing.
use Rattle.std.proofs.Common.{add-one, arith}
use Rattle.rules_status.proofs.Lengths.{summed_on, summed_all}
use Rattle.rules_status.proofs.all_bytes.Goals as goal

pub loop-i-preserved : goal.loop-i-preserved
loop-i-preserved c =
    rw (add-one, c.length-sum.ensures) (summed_on _ c.count-i-end.ensures.taken c.loop-i.invariant (omega arith))

pub returns-clause-sum : goal.returns-clause-sum
returns-clause-sum c = summed_all _ c.count-i-end.ensures.taken c.loop-i.invariant (omega arith)
