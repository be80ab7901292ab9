-- A table of which each entry is right is Δ1 as it is stored.
-- Entry i stands in row i / m, at i % m.
use mathlib.Core.List.{List}
use mathlib.Core.Path.{◌≡◌, sym, ◌∙◌}
use Prim.Native.Nat.{ℕ, ◌*◌, ◌/◌, ◌%◌, ◌≤◌, ◌<◌}
use native.Mathlib.Nat.{div-add-mod', div-lt_iff_lt-mul, mod-lt}
use native.Mathlib.Omega.{arith}
use lib.ListN.{length, get_or}
use lib.Seq.{ext_get_or}
use Rattle.tables.proofs.Stored.{stored_Δ1_length, stored_entry}
use Rattle.tables_delta1.specs.Rows.{RightTable}
use Rattle.tables.specs.Tables.{stored_Δ1}

pub right_stored : (w table : List ℕ) → RightTable w table → 1 ≤ length w → length table ≡ 256 * length w → table ≡ stored_Δ1 w
right_stored w table r l n = ext_get_or 0 table (stored_Δ1 w) (n ∙ sym (stored_Δ1_length w)) each
  where
    each : (i : ℕ) → i < length table → get_or table i 0 ≡ get_or (stored_Δ1 w) i 0
    each i h =
        let m = length w in
        let row : i / m < 256 = (div-lt_iff_lt-mul {k = m} {x = i} {y = 256} (omega arith)).1 (omega arith) in
        rw (div-add-mod' i m) at (r (i / m) (i % m) row (mod-lt i (omega arith))) ∙ sym (stored_entry w i (omega arith))
