-- `tables_order::write_second_group` meets its contract. The invariant: of the second group its
-- part from k on is left to be written. Assumes nothing.
use Rattle.std.proofs.Common.{◌≡◌, ◌+◌, ◌-◌, ◌<◌, ◌≤◌, ℕ, ℤ, ◌-ℤ◌, pos, List, ◌∷◌, map, Bool, true, ◌&&◌, arith, refl, length, get_or}
use borrow.Author.Tests.{eq-eqb, ne_eqb}
use lib.Dec.{eqb}
use lib.IntN.{nat_abs}
use lib.ListN.{set, length-map}
use lib.Signed.{lt_z}
use mir.Syntax.{w16}
use mir.Val.{to_z, of_z}
use mir.ValLaws.{to_z_pos}
use Rattle.answers.proofs.Partly.{PartlyWritten, none_written, kept_length, room_left, one_more, all_written}
use Rattle.tables.proofs.Groups.{second_from, second_all, second_here, second_not_here, second_end}
use Rattle.tables.proofs.HMin.{h_min_facts}
use Rattle.tables.proofs.Order.{in_second, groups_length}
use Rattle.tables.specs.Tables.{h_min, second_group}
use Rattle.tables_minima.proofs.Entries.{entry, Read, read}
use Rattle.tables_minima.proofs.Signed.{predecessor}
use Rattle.tables_minima.specs.Minima.{HMinTable, KMinTable}
use Rattle.tables_order.specs.Groups.{SecondGroupWritten}
use Rattle.tables_order.proofs.write_second_group.Goals as goal
use Rattle.tables_order.proofs.write_second_group.Goals.{Then-k_min-h, Joined-h-last, then-h-last+then-k_min-h, else-h-last}
use Rattle.tables_order.proofs.write_second_group.Goals.{else-h-last-via-then-h-last+else-k_min-h, else-h-last-via-else-h-last}

room : (w : List ℕ) (n : ℕ) → 1 ≤ length w → length w ≤ n → 1 + length (map pos (second_group w)) ≤ n
room w n l u = rw length-map (omega (arith, groups_length w l))

module _ {w : List ℕ} {hs : List ℤ} {ks : List ℕ} (hm : HMinTable w hs) (km : KMinTable w ks) (k : ℕ) (l : 1 ≤ k) (u : k ≤ length w) where
  at_position : Read w hs k
  at_position = read hm k l u

  -- the two tests of a turn are the group's
  tests :
      {x y : Bool} → let h = to_z w16 (entry hs k) in
      lt_z h (to_z w16 (of_z w16 (to_z w16 (length w) -ℤ pos 1))) ≡ x → eqb (get_or ks (nat_abs h) 0) k ≡ y → in_second w k ≡ x && y
  tests p q =
      let facts = h_min_facts w k l u in
      rw (
        ← p,
        ← q,
        at_position.back,
        predecessor (length w) (omega arith) (omega (arith, hm)),
        to_z_pos w16 (length w - 1) (omega (arith, hm)),
        km.entry (h_min w k) facts.high,
      )

  module _ {old new : List ℤ} {next : ℕ} (r : PartlyWritten 1 old new (map pos (second_group w)) (map pos (second_from w k)) next) where
    -- where the group has h_min(k), that is the entry that is written next
    due :
        in_second w k ≡ true → let left = pos (h_min w k) ∷ map pos (second_from w (k + 1)) in
        PartlyWritten 1 old new (map pos (second_group w)) left next
    due e = rw (second_here _ _ u e) at r

    stores :
        length w ≤ length old → in_second w k ≡ true →
        PartlyWritten 1 old (set new next (to_z w16 (entry hs k))) (map pos (second_group w)) (map pos (second_from w (k + 1))) (next + 1)
    stores b e = rw at_position.back (one_more 1 _ (due e) (room w (length old) (omega arith) b))

next_in_buffer :
    (c : Then-k_min-h) → (c.loop-k.next < length c.loop-k.order) × (length c.loop-k.order ≡ length c.args.order.now)
next_in_buffer c =
    let hm = c.requires.h_min in
    let km = c.requires.k_min in
    let r = c.loop-k.invariant.written in
    let k = c.loop-k.k in
    let passes = tests hm km k (omega arith) (omega arith) c.if-h-last.true (eq-eqb _ _ c.if-k_min-h.true) in
    let fits = room c.args.pattern.now (length c.args.order.now) (omega arith) (omega arith) in
    (room_left 1 _ (due hm km k (omega arith) (omega arith) r passes) fits, kept_length 1 _ r fits)

pub loop-k-init : goal.loop-k-init
loop-k-init c = record { low = omega arith; high = omega arith; written = rw (second_all _) (none_written 1 _ _) }

pub offset_bounds-order-next : goal.offset_bounds-order-next
offset_bounds-order-next c = omega (arith, next_in_buffer (goal.at.offset_bounds-order-next c).Then-k_min-h)

pub bounds-order-next : goal.bounds-order-next
bounds-order-next c = (next_in_buffer (goal.at.bounds-order-next c).Then-k_min-h).0

pub overflow_add-next : goal.overflow_add-next
overflow_add-next c = omega (arith, next_in_buffer (goal.at.overflow_add-next c).Then-k_min-h)

-- after a turn the part from k + 1 on is left
turned :
    (c : Joined-h-last) → let w = c.args.pattern.now in
    PartlyWritten 1 c.args.order.now c.if-h-last.order (map pos (second_group w)) (map pos (second_from w (c.loop-k.k + 1))) c.if-h-last.next
turned c =
    let hm = c.requires.h_min in
    let km = c.requires.k_min in
    let r = c.loop-k.invariant.written in
    let k = c.loop-k.k in
    let u : k ≤ length c.args.pattern.now = omega arith in
    let l : 1 ≤ k = omega arith in
    elim c.if-h-last.branch [
      | then-h-last+then-k_min-h w ↦
          let passes = tests hm km k l u w.if-h-last.true (eq-eqb _ _ w.if-k_min-h.true) in
          rw (w.order-is, w.next-is) (stores hm km k l u r (omega arith) passes)
      | else-h-last w ↦
          rw (w.order-is, w.next-is)
          (elim w.else-h-last.branch [
            | else-h-last-via-then-h-last+else-k_min-h v ↦
                rw (second_not_here _ _ u (tests hm km k l u v.if-h-last.true (ne_eqb _ _ v.if-k_min-h.false))) at r
            | else-h-last-via-else-h-last v ↦ rw (second_not_here _ _ u (tests hm km k l u v.if-h-last.false refl)) at r
          ])
    ]

-- what is left where nothing is left to be written
done :
    (w : List ℕ) (k next : ℕ) {old new : List ℤ} → length w < k →
    PartlyWritten 1 old new (map pos (second_group w)) (map pos (second_from w k)) next → SecondGroupWritten w old new next
done w k next e r =
    let all = all_written _ _ (rw (second_end w k e) at r) in
    record { written = all.buffer; after = rw length-map at all.after }

pub loop-k-preserved : goal.loop-k-preserved
loop-k-preserved c =
    record { low = omega arith; high = omega arith; written = turned (goal.at.loop-k-preserved c).Joined-h-last }

pub returns-after-h-last : goal.returns-after-h-last
returns-after-h-last c = done _ (c.loop-k.k + 1) _ (omega arith) (turned (goal.at.returns-after-h-last c).Joined-h-last)
