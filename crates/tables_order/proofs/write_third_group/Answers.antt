-- `tables_order::write_third_group` meets its contract. The invariant: of the third group what it
-- has from h on is left to be written. Assumes nothing.
use Rattle.std.proofs.Common.{◌≡◌, ◌≢◌, ◌∙◌, ◌+◌, ◌-◌, ◌<◌, ◌≤◌, ℕ, ℤ, pos, List, ◌∷◌, map, arith, sym, length, get_or, take}
use lib.ListN.{length-map}
use lib.Seq.{length-take-le, get_or-take}
use mir.ValLaws.{to_z_pos}
use mir.Syntax.{w16}
use Rattle.answers.proofs.Partly.{PartlyWritten, none_written, room_left, one_more, all_written}
use Rattle.tables.proofs.Groups.{third_from, third_all, third_here, third_not_here, third_end}
use Rattle.tables.specs.Tables.{k_min, third_group}
use Rattle.tables_minima.specs.Minima.{KMinTable}
use Rattle.tables_order.proofs.write_third_group.Goals as goal
use Rattle.tables_order.proofs.write_third_group.Goals.{then-k-eq0, else-k-eq0}

-- the entries that the loop goes over are those below m - 1
over : (w ks : List ℕ) → length w ≤ length ks → length (take (length w - 1) ks) ≡ length w - 1
over w ks l = length-take-le (length w - 1) ks (omega arith)

room : (w : List ℕ) (at n : ℕ) → at + length (third_group w) ≤ n → at + length (map pos (third_group w)) ≤ n
room w at n l = rw length-map l

module _ {w ks : List ℕ} (km : KMinTable w ks) (h : ℕ) (u : h + 1 < length w) {at next : ℕ} {old new : List ℤ}
    (r : PartlyWritten at old new (map pos (third_group w)) (map pos (third_from w h)) next) where
  read : get_or (take (length w - 1) ks) h 0 ≡ k_min w h
  read = get_or-take (length w - 1) ks h 0 (omega arith) ∙ km.entry h (omega arith)

  -- where k_min(h) is 0, h is the entry that is written next
  due :
      get_or (take (length w - 1) ks) h 0 ≡ 0 →
      PartlyWritten at old new (map pos (third_group w)) (pos h ∷ map pos (third_from w (h + 1))) next
  due e = rw (third_here w h u (sym read ∙ e)) at r

  -- and else none is
  passed :
      get_or (take (length w - 1) ks) h 0 ≢ 0 →
      PartlyWritten at old new (map pos (third_group w)) (map pos (third_from w (h + 1))) next
  passed d = rw (third_not_here w h u (λ e. d (read ∙ e))) at r

pub loop-h-init : goal.loop-h-init
loop-h-init c = rw (third_all _) (none_written _ _ _)

pub bounds-order-next : goal.bounds-order-next
bounds-order-next c =
    let w = c.args.pattern.now in
    let u : c.loop-h.h + 1 < length w = omega (arith, over w c.args.k_min.now (omega arith)) in
    room_left _ _ (due c.requires.k_min c.loop-h.h u c.loop-h.invariant c.if-k-eq0.true) (room w c.args.begin _ c.requires.room)

pub loop-h-preserved : goal.loop-h-preserved
loop-h-preserved c =
    let w = c.args.pattern.now in
    let h = c.loop-h.h in
    let u : h + 1 < length w = omega (arith, over w c.args.k_min.now (omega arith)) in
    let r = c.loop-h.invariant in
    elim c.if-k-eq0.branch [
      | then-k-eq0 v ↦
          let stores = one_more _ _ (due c.requires.k_min h u r v.if-k-eq0.true) (room w c.args.begin _ c.requires.room) in
          rw (v.order-is, v.next-is, to_z_pos w16 h (omega arith)) stores
      | else-k-eq0 v ↦ rw (v.order-is, v.next-is) (passed c.requires.k_min h u r v.if-k-eq0.false)
    ]

pub returns : goal.returns
returns c =
    let w = c.args.pattern.now in
    let past : length w ≤ c.loop-h.h + 1 = omega (arith, over w c.args.k_min.now (omega arith)) in
    (all_written _ _ (rw (third_end w c.loop-h.h past) at c.loop-h.invariant)).buffer
