-- `hex_lines::write_pair` meets its contract: two stores put the digits of the byte.
-- Assumes nothing.
use Rattle.std.proofs.Common.{arith}
use Rattle.answers.proofs.Partly.{put_none, put_store}
use Rattle.hex_digits.specs.Hex.{digits}
use Rattle.hex_lines.proofs.write_pair.Goals as goal

pub returns-clause-written : goal.returns-clause-written
unfolding digits
returns-clause-written c =
    rw c.digits_of.ensures
    (put_store (put_store (put_none c.args.at c.args.out.now) _ (omega arith)) _ (omega arith)).buffer
