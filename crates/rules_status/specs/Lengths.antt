-- The bytes (cards) of the patterns (motifs) of all rules. These are definitions.
use Rattle.std.specs.Prelude.{List, ℕ, length}
use Rattle.rules.specs.Buffers.{sum_over}
use Rattle.rules.specs.Rules.{Rule}

-- the lengths of the patterns, summed up
abbrev pub bytes_of : List Rule → ℕ
bytes_of rs = sum_over (λ r. length r.pattern) rs

-- their greatest sum: 16 rules of 128
abbrev pub most_bytes : ℕ
most_bytes = 2048
