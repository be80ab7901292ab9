-- What the function that writes the second group leaves. These are definitions.
use Rattle.std.specs.Prelude.{List, map, ◌≡◌, ℕ, ◌+◌, ℤ, pos, length}
use Rattle.answers.specs.Buffers.{from_entry}
use Rattle.tables.specs.Tables.{second_group}

-- the second group stands after the first entry of an order, and the third group begins at an entry: order' is the order afterwards
pub record SecondGroupWritten (w : List ℕ) (order order' : List ℤ) (begin : ℕ) : Type 0 where
  pub written : order' ≡ from_entry 1 (map pos (second_group w)) order
  pub after : begin ≡ 1 + length (second_group w)
