-- `copy_blocks::copy_blocks` meets its contract: what is written from the first entry on is in
-- front, by the definition of `in_front`, and the bytes copied are all. Assumes nothing.
use Rattle.std.proofs.Common.{refl, arith, length}
use Rattle.std.proofs.Math.Seq.{take_all}
use Rattle.answers.specs.Buffers.{in_front}
use Rattle.copy_blocks.proofs.copy_blocks.Goals as goal

pub returns-clause-copied : goal.returns-clause-copied
unfolding in_front
returns-clause-copied c =
    let bytes = c.args.bytes.now in
    rw (c.write_block.ensures, take_all (length bytes) bytes (omega arith)) refl
