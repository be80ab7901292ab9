-- The pattern without its last byte, over which the loops go.
-- It is m - 1 bytes, the pattern's own.
use mathlib.Core.List.{List}
use mathlib.Core.Path.{◌≡◌}
use Prim.Native.Nat.{ℕ, ◌-◌, ◌<◌}
use native.Mathlib.Omega.{arith}
use lib.ListN.{length, get_or, take}
use lib.Seq.{length-take-le, get_or-take}
use Rattle.tables.specs.Sets.{byte}

pub front_length : (w : List ℕ) → length (take (length w - 1) w) ≡ length w - 1
front_length w = length-take-le (length w - 1) w (omega arith)

pub front_byte : (w : List ℕ) (i : ℕ) → i < length (take (length w - 1) w) → get_or (take (length w - 1) w) i 0 ≡ byte w i
front_byte w i h = get_or-take (length w - 1) w i 0 (omega (arith, front_length w))
