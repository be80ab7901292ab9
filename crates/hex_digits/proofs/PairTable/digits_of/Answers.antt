-- `hex_digits::PairTable::digits_of` meets its contract: the table has the digits of every byte.
-- Assumes nothing.
use Rattle.std.proofs.Common.{sym, arith}
use Rattle.hex_digits.proofs.Pairs.{pair_digits}
use Rattle.hex_digits.proofs.PairTable.digits_of.Goals as goal

pub returns : goal.returns
returns c = sym (pair_digits c.args.self.now.right c.args.byte (omega arith))
