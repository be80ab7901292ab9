-- `hex_lines::write_digits` meets its contract: the digits passed, the number's last ones, stand where
-- they belong. The loop keeps how many they are, and the number's places above them. Assumes nothing.
use Rattle.std.proofs.Common.{◌≡◌, ℕ, ◌+◌, ◌/◌, ◌^◌}
use Rattle.std.proofs.Math.Seq.{sets}
use Rattle.hex_digits.specs.Hex.{digits}
use Rattle.hex_lines.proofs.write_digits.Given as goal

abbrev pub invariant-loop-i : goal.invariant-loop-i
invariant-loop-i l =
    (done : ℕ)
    × (l.i + done ≡ l.count)
    × (l.rest ≡ l.number / 16 ^ done)
    × (l.out ≡ sets l.initial.out (l.at + l.i) (digits done l.number))
