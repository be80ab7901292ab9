-- Blocks of bytes. This is a definition.
use Rattle.std.specs.Prelude.{ℕ}

-- how many bytes a block has: when bytes are copied in blocks, fewer than these may be left
abbrev pub block_len : ℕ
block_len = 2048
