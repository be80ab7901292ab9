-- `reverse` meets its contract: entry x is the byte at m - 1 - x, and so below 256.
-- Assumes nothing.
use Rattle.std.proofs.Common.{◌-◌, length, arith}
use Rattle.tables_delta1.proofs.reverse.Goals as goal

pub returns : goal.returns
returns c = record {
  bytes = λ x i e. c.loop-i.invariant.bytes x i e (omega arith);
  below = λ x h.
      let i = length c.args.pattern.now - 1 - x in
      omega (arith, c.loop-i.invariant.bytes x i (omega arith) (omega arith), c.type_inv.pattern i);
  past = c.loop-i.invariant.past;
}
