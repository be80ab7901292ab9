-- An entry of the order as the code reads it: a position, which is a small number, so that its bits are the number.
use mathlib.Core.List.{List}
use mathlib.Core.Path.{◌≡◌, ap}
use Prim.Native.Nat.{ℕ, ◌+◌, ◌≤◌, ◌<◌}
use native.Mathlib.Omega.{arith}
use lib.IntN.{ℤ, pos, nat_abs}
use lib.ListN.{length, get_or, length-take}
use lib.Seq.{get_or-take}
use mir.Syntax.{w16}
use mir.Val.{to_z, of_z}
use mir.ValLaws.{to_z_pos}
use Rattle.tables.proofs.Groups.{order_below, stored_order_entry}
use Rattle.tables.proofs.Order.{order_length, stored_order_length}
use Rattle.tables.specs.Tables.{order}
use Rattle.tables_delta2.specs.Links.{OrderStored}

pub order_room : {w : List ℕ} {o : List ℤ} → OrderStored w o → length w + 1 ≤ length o
order_room {w} {o} s = omega (arith, length-take (length w + 1) o, ap length s.stored, stored_order_length w s.taken.some)

-- entry i is read as the position there
pub record Read (w : List ℕ) (o : List ℤ) (i : ℕ) : Type 0 where
  pub back : to_z w16 (of_z w16 (get_or o i (pos 0))) ≡ pos (get_or (order w) i 0)
  pub below : get_or (order w) i 0 < length w
  pub small : get_or (order w) i 0 < 128

pub read : {w : List ℕ} {o : List ℤ} → OrderStored w o → (i : ℕ) → i < length w → Read w o i
read {w} {o} s i l =
    let some = s.taken.some in
    let inside : i < length (order w) = omega (arith, order_length w some) in
    let below = order_below w some i inside in
    let small : get_or (order w) i 0 < 128 = omega (arith, s.taken.few) in
    let there = rw (← s.stored, get_or-take (length w + 1) o i (pos 0) (omega arith)) at (stored_order_entry w i inside) in
    record { back = rw there (to_z_pos w16 (get_or (order w) i 0) (omega arith)); below = below; small = small }

-- the number that the code takes from entry i
abbrev pub read_at : (o : List ℤ) (i : ℕ) → ℕ
read_at o i = nat_abs (to_z w16 (of_z w16 (get_or o i (pos 0))))

pub read_is : {w : List ℕ} {o : List ℤ} → OrderStored w o → (i : ℕ) → i < length w → get_or (order w) i 0 ≡ read_at o i
read_is s i l = let at = read s i l in rw at.back

pub read_below : {w : List ℕ} {o : List ℤ} → OrderStored w o → (i : ℕ) → i < length w → read_at o i < length w
read_below s i l = let at = read s i l in rw at.back at.below
