-- `tables_order::write_order` meets its contract: the last position, the two groups and -1 are put
-- one after another. Assumes nothing.
use Rattle.std.proofs.Common.{◌≡◌, ◌+◌, ◌-◌, ◌^◌, ◌<◌, ◌≤◌, ℕ, ℤ, pos, List, [], ◌∷◌, ◌++◌, map, arith, ap, length}
use mathlib.Core.List.{map-append}
use lib.IntN.{negsuc}
use lib.ListN.{set, length-map, length-set}
use mir.Syntax.{w16}
use mir.ValLaws.{to_z_pos}
use Rattle.answers.proofs.Partly.{put, put_none, put_store, ◌then◌, put_front}
use Rattle.answers.specs.Buffers.{from_entry, in_front}
use Rattle.tables.proofs.Order.{groups_length}
use Rattle.tables.specs.Tables.{second_group, third_group, order, stored_order}
use Rattle.tables_minima.proofs.Signed.{predecessor}
use Rattle.tables_order.proofs.write_order.Goals as goal
use Rattle.tables_order.specs.Groups.{SecondGroupWritten}

-- the parts of the order
whole :
    (w : List ℕ) → stored_order w ≡ pos (length w - 1) ∷ map pos (second_group w) ++ map pos (third_group w) ++ (negsuc 0 ∷ [])
unfolding stored_order order
whole w = ap (λ (l : List ℤ). pos (length w - 1) ∷ l ++ (negsuc 0 ∷ [])) (map-append pos (second_group w) (third_group w))

all_put :
    (w : List ℕ) (x : ℤ) (begin : ℕ) (o o₁ o₂ : List ℤ) → 1 ≤ length w → length w + 1 ≤ length o → x ≡ pos (length w - 1) →
    SecondGroupWritten w (set o 0 x) o₁ begin → o₂ ≡ from_entry begin (map pos (third_group w)) o₁ →
    set o₂ (length w) (negsuc 0) ≡ in_front (stored_order w) o
all_put w x begin o o₁ o₂ b room e r e₂ =
    let end : length w ≡ begin + length (third_group w) = omega (arith, groups_length w b, r.after) in
    let groups =
    put_store (put_none 0 o) x (omega arith)
    then put (length-map (second_group w) pos) (r.after, r.written)
    then put (length-map (third_group w) pos) (end, e₂)
    in
    rw (whole, ← e) (put_front (put_store groups (negsuc 0) (omega arith)))

pub write_third_group-requires-clause-room : goal.write_third_group-requires-clause-room
write_third_group-requires-clause-room c =
    let written = c.write_second_group-begin.ensures in
    let kept = simp length-set at c.write_second_group-begin.auto.order in
    omega (arith, groups_length c.args.pattern.now c.requires.h_min.taken.some)

pub returns : goal.returns
returns c =
    let m = length c.args.pattern.now in
    let l : 1 ≤ m = omega arith in
    let b : m < 2 ^ 15 = omega arith in
    let b' : m - 1 < 2 ^ 15 = omega arith in
    all_put _ _ _ _ _ _ l (omega arith) (rw (predecessor m l b, to_z_pos w16 (m - 1) b')) c.write_second_group-begin.ensures
    c.write_third_group.ensures
