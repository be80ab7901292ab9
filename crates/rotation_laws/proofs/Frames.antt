-- The frames of a ring started r bytes later are its frames started r later (`FramesRotated`); so it
-- costs the same (`CostRotated`), since its bytes are summed up in another order, and as many frames are holds.
-- Frame by frame: a frame is a hold just where the frame r further on around the ring was, and else it has that byte.
use mathlib.Core.List.{List}
use mathlib.Core.Logic.{⊎_elim}
use mathlib.Core.Path.{◌≡◌, sym, ◌∙◌}
use Prim.Native.Nat.{ℕ, ◌+◌, ◌%◌, ◌≤◌, ◌<◌}
use native.Mathlib.Nat.{mod-lt}
use native.Mathlib.Omega.{arith}
use lib.ListN.{length}
use lib.Seq.{ext_get_or}
use Rattle.tables.proofs.Cases.{le_or_lt}
use Rattle.tables.specs.Sets.{byte}
use Rattle.ring.proofs.Ascending.{passing_ascends}
use Rattle.ring.proofs.Back.{back_inside, back_moved, back_inverse}
use Rattle.ring.proofs.Listed.{passing_moved, ascending_count}
use Rattle.ring.specs.Ring.{back}
use Rattle.frames.proofs.Holds.{length_frames, holds_right, held_at}
use Rattle.frames.specs.Frames.{is_hold, is_held, frames}
use Rattle.frames.specs.Promises.{holds_of, HoldsRight}
use Rattle.price_tariff.proofs.Cost.{cost_held}
use Rattle.price_tariff.specs.Sums.{bytes_total, cost_by_holds}
use Rattle.price_tariff.specs.Tariff.{byte_price, cost}
use Rattle.rotation_laws.proofs.Occurrences.{occurs_rotated}
use Rattle.rotation_laws.proofs.Rotated.{length_rotated, started_past, rotated_entry, sum_rotated}
use Rattle.rotation_laws.specs.Promises.{rotated, FramesRotated, CostRotated}

-- frame i of the ring started later is held just where the one r further on was
pub held_rotated :
    (r q : ℕ) (w t : List ℕ) → 1 ≤ length w → r ≤ length t → (i : ℕ) → i < length t →
    is_held q w (rotated r t) i ≡ is_held q w t ((i + r) % length t)
held_rotated r q w t some h i l =
    let n = length t in
    let some' : 1 ≤ n = omega arith in
    held_at w (rotated r t) some q i (rw length_rotated l)
    ∙ rw (length_rotated r t, occurs_rotated r w t some h (back n i q) (back_inside n some' i q), back_moved n some' i q r)
    (sym (held_at w t some q ((i + r) % n) (mod-lt (i + r) some')))

pub frames_rotated : FramesRotated
unfolding FramesRotated HoldsRight
frames_rotated r q w t some h =
    let u = rotated r t in
    let before = frames q w t in
    let (size, size') : (length u ≡ length t) × (length before ≡ length t) = (length_rotated r t, length_frames q w t) in
    ext_get_or 0 (frames q w u) (rotated r before) (length_frames q w u ∙ size ∙ sym (length_rotated r before ∙ size'))
    (λ i l.
    let inside : i < length t = rw (length_frames, length_rotated) at l in
    let i' = (i + r) % length t in
    holds_right q i w u (omega arith)
    ∙ rw (
      held_rotated r q w t some h i inside,
      rotated_entry r t h i inside,
      rotated_entry r before (omega arith) i (omega arith),
      size',
      holds_right q i' w t (mod-lt (i + r) (omega arith)),
    ))

-- as many of the frames are holds
holds_rotated : (r : ℕ) (gs : List ℕ) → r ≤ length gs → length (holds_of (rotated r gs)) ≡ length (holds_of gs)
unfolding holds_of
holds_rotated r gs h =
    let v = back_inverse (length gs) r in
    let moved = passing_moved v (λ i. is_hold (byte (rotated r gs) i)) (λ i. is_hold (byte gs i)) (λ i l. rw (rotated_entry r gs h i l)) in
    rw (length_rotated r gs, moved) (ascending_count v 0 (holds_of gs) (passing_ascends _ 0 (length gs) _ (omega arith)))

-- and so a text with these frames costs the same
pub cost_alike : (r : ℕ) (t gs : List ℕ) → length gs ≡ length t → cost (rotated r t) (rotated r gs) ≡ cost t gs
unfolding cost_by_holds bytes_total
cost_alike r t gs size =
    ⊎_elim
    (λ past. rw (started_past r t past, started_past r gs (omega arith)))
    (λ inside.
    rw (
      cost_held (rotated r t) (rotated r gs) (length_rotated r gs ∙ size ∙ sym (length_rotated r t)),
      cost_held t gs size,
      holds_rotated r gs (omega arith),
      sum_rotated byte_price r t,
      length_rotated r t,
    ))
    (le_or_lt (length t) r)

pub cost_rotated : CostRotated
unfolding CostRotated FramesRotated
cost_rotated r q w t some =
    ⊎_elim
    (λ past. rw (started_past r t past))
    (λ inside. rw (frames_rotated r q w t some (omega arith)) (cost_alike r t (frames q w t) (length_frames q w t)))
    (le_or_lt (length t) r)
