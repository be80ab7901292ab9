-- `reverse` meets its contract. The loop's invariant: the pattern's first i bytes stand reversed,
-- and past the pattern all is 256. Assumes nothing.
use Rattle.std.proofs.Common.{ℕ, ◌≡◌, ◌+◌, ◌<◌, ◌≤◌, length, get_or}
use Rattle.tables.specs.Sets.{byte}
use Rattle.tables_delta1.proofs.reverse.Given as goal

-- the first i bytes stand reversed, and past the pattern all is 256
abbrev pub invariant-loop-i : goal.invariant-loop-i
invariant-loop-i l = record {
  bytes : (x j : ℕ) → x + j + 1 ≡ length l.pattern → j < l.i → get_or l.reversed x 0 ≡ byte l.pattern j;
  past : (x : ℕ) → length l.pattern ≤ x → x < length l.reversed → get_or l.reversed x 0 ≡ 256;
}
