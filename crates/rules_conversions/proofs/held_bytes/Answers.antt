-- `rules_conversions::held_bytes` meets its contract. The loop's invariant: of the entries past the
-- 0, the first i are the bytes that the first i rules hold. Assumes nothing.
use Rattle.std.proofs.Common.{arith}
use Rattle.rules_conversions.proofs.Table.{one_held, held_front}
use Rattle.rules_conversions.proofs.held_bytes.Goals as goal

pub loop-i-preserved : goal.loop-i-preserved
loop-i-preserved c = one_held _ c.loop-i.invariant (omega arith) c.held.ensures

pub returns-clause-held : goal.returns-clause-held
returns-clause-held c =
    held_front _ c.loop-i.invariant (omega (arith, c.loop-i.auto.byte-items, c.loop-i.invariant.size)) _
