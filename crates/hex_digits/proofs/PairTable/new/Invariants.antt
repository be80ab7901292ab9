-- `hex_digits::PairTable::new` meets its contract: the digits of the bytes below `byte` stand in their
-- places, and the table keeps its length. Assumes nothing.
use Rattle.std.proofs.Common.{◌≡◌, ℕ, ◌<◌, length}
use Rattle.hex_digits.specs.Pairs.{DigitPair}
use Rattle.hex_digits.proofs.PairTable.new.Given as goal

abbrev pub invariant-loop-byte : goal.invariant-loop-byte
invariant-loop-byte l = record {
  size : length l.pairs ≡ 512;
  right : (b : ℕ) → b < l.byte → DigitPair l.pairs b;
}
