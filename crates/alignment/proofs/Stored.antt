-- The entries of a buffer that begins with a table, and those of the order as they are read.
-- By what the tables' own proofs say of each entry.
use mathlib.Core.List.{List}
use mathlib.Core.Path.{◌≡◌, sym, ◌∙◌, ap}
use Prim.Native.Nat.{ℕ, ◌≤◌, ◌<◌}
use native.Mathlib.Omega.{arith}
use lib.IntN.{ℤ, pos}
use lib.ListN.{length, get_or, length-take}
use lib.Seq.{get_or-take}
use mir.Syntax.{w16}
use mir.Val.{to_z, of_z}
use mir.ValLaws.{to_z-of_z}
use Rattle.tables.proofs.Groups.{order_below, stored_order_entry}
use Rattle.tables.proofs.Order.{order_length, stored_order_length}
use Rattle.tables.specs.Tables.{order, stored_order}
use Rattle.alignment.specs.Ready.{Begins}

module _ {A : Type 0} (entries buffer : List A) (ready : Begins entries buffer) where
  pub begins_room : length entries ≤ length buffer
  begins_room = omega (arith, simp length-take at (ap length ready))

  pub begins_entry : (i : ℕ) (d : A) → i < length entries → get_or buffer i d ≡ get_or entries i d
  begins_entry i d l = sym (get_or-take (length entries) buffer i d l) ∙ rw ready

-- an entry of the order's buffer as it is read, a signed 16-bit number: it is a position where it is one of the order
abbrev pub entry : (row : List ℤ) (i : ℕ) → ℤ
entry row i = to_z w16 (of_z w16 (get_or row i (pos 0)))

pub order_read :
    (w : List ℕ) (row : List ℤ) → Begins (stored_order w) row → 1 ≤ length w → length w ≤ 128 → (i : ℕ) → i < length w →
    entry row i ≡ pos (get_or (order w) i 0)
order_read w row ready some few i l =
    let inside : i < length (order w) = omega (arith, order_length w some) in
    let small = order_below w some i inside in
    let stored = begins_entry (stored_order w) row ready i (pos 0) (omega (arith, stored_order_length w some)) in
    rw (stored, stored_order_entry w i inside) (to_z-of_z w16 (pos (get_or (order w) i 0)) (record { sfits = omega arith }))
