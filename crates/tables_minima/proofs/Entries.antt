-- An entry of h_min's table as the code reads it, and its difference h_min(k) - k.
-- The entry is a small number, so its bits are the number.
use mathlib.Core.List.{List}
use mathlib.Core.Path.{◌≡◌}
use Prim.Native.Nat.{ℕ, ◌^◌, ◌≤◌, ◌<◌}
use native.Mathlib.Omega.{arith}
use lib.IntN.{ℤ, pos, sub_ℕ, ◌-ℤ◌}
use lib.ListN.{length, get_or}
use mir.Syntax.{w16}
use mir.Val.{to_z, of_z}
use mir.ValLaws.{to_z_pos}
use Rattle.tables.proofs.HMin.{h_min_facts}
use Rattle.tables_minima.proofs.Signed.{difference, difference_back}
use Rattle.tables.specs.Tables.{h_min}
use Rattle.tables.specs.Buffers.{PatternTaken}
use Rattle.tables_minima.specs.Minima.{HMinTable}

-- an entry as it is read, and the difference of an entry and its index
abbrev pub entry : List ℤ → ℕ → ℕ
entry t k = of_z w16 (get_or t k (pos 0))

abbrev pub minus : List ℤ → ℕ → ℤ
minus t k = to_z w16 (entry t k) -ℤ to_z w16 k

-- what is read is h_min(k), which is small, and the difference's bits say what it is
pub record Read (w : List ℕ) (t : List ℤ) (k : ℕ) : Type 0 where
  pub back : to_z w16 (entry t k) ≡ pos (h_min w k)
  pub small : h_min w k < 128
  pub minus_back : to_z w16 (of_z w16 (minus t k)) ≡ sub_ℕ (h_min w k) k

pub read_one :
    {w : List ℕ} → PatternTaken w → (t : List ℤ) (k : ℕ) → 1 ≤ k → k ≤ length w → get_or t k (pos 0) ≡ pos (h_min w k) → Read w t k
read_one {w} taken t k l u e =
    let f = h_min_facts w k l u in
    let h< : h_min w k < 2 ^ 15 = omega arith in
    let k< : k < 2 ^ 15 = omega arith in
    let minus_is : minus t k ≡ sub_ℕ (h_min w k) k = rw e (difference (h_min w k) k h< k<) in
    record {
      back = rw e (to_z_pos w16 (h_min w k) h<);
      small = omega arith;
      minus_back = rw minus_is (difference_back (h_min w k) k h< k<);
    }

pub read : {w : List ℕ} {t : List ℤ} → HMinTable w t → (k : ℕ) → 1 ≤ k → k ≤ length w → Read w t k
read {w} {t} table k l u = read_one table.taken t k l u (table.entry k l u)
