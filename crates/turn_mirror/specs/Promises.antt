-- What is promised of mirrored bytes and of a table of them (document 02, "Mirrored edges"). Each
-- is a type, and its proof is in proofs/. These are definitions.
use Rattle.std.specs.Prelude.{Bool, true, ◌&&◌, List, ◌↔◌, ◌≡◌, ℕ, ◌-◌, ◌<◌, eqb, get_or}
use Rattle.tables.specs.Least.{all_from}
use Rattle.turn_mirror.specs.Mirrored.{bit, mirrored, MirrorTable}

-- the rule of a mirrored byte (card): its bit i is bit 7 - i of the byte; it is a byte; and mirrored again it is the byte
pub record Mirror (c : ℕ) : Type 0 where
  pub bits : (i : ℕ) → i < 8 → bit (mirrored c) i ≡ bit c (7 - i)
  pub byte : mirrored c < 256
  pub twice : mirrored (mirrored c) ≡ c

-- each of the 256 bytes has the rule
unfoldable pub MirroredRight : Type 0
MirroredRight = (c : ℕ) → c < 256 → Mirror c

-- the test of entry c of a table: it is byte c mirrored, and the entry at it is c
abbrev pub entry_right : (table : List ℕ) → (c : ℕ) → Bool
entry_right table c = eqb (get_or table c 0) (mirrored c) && eqb (get_or table (get_or table c 0) 0) c

-- the 256 entries of a table pass this test just where it has the rule of a table of mirrored bytes
unfoldable pub MirrorTableRight : Type 0
MirrorTableRight = (table : List ℕ) → (all_from 256 0 (entry_right table) ≡ true) ↔ MirrorTable table
