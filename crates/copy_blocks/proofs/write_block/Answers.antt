-- `copy_blocks::write_block` meets its contract: the part of the buffer that is written is the
-- block, and what is before and past it stays, as in `from_entry`. Assumes nothing.
use Rattle.std.proofs.Common.{◌≡◌, refl, ◌+◌, ◌-◌, append_assoc, arith, length}
use Rattle.answers.specs.Buffers.{from_entry}
use Rattle.copy_blocks.proofs.write_block.Goals as goal

pub returns : goal.returns
unfolding from_entry
returns c =
    let n = length c.args.block.now in
    let size : c.args.at + n - c.args.at ≡ n = omega arith in
    rw (c.copy_from_slice.ensures.after, size, ← append_assoc) refl
