-- The frames of a job turned are the job's frames turned (`FramesTurned`); it has as many ones (`OnesTurned`) and costs the same (`CostTurned`).
-- Frame by frame: a frame is a hold just where the frame at the turned index was, since each occurrence and the hold offset are turned.
-- And sum by sum: a mirrored byte has as many ones, by one test over all 256, and the order of a sum's numbers is all one.
use mathlib.Core.Bool.{Bool, true, false, cond}
use mathlib.Core.List.{List, map}
use mathlib.Core.Logic.{⊎_elim}
use mathlib.Core.Path.{◌≡◌, refl, sym, ◌∙◌}
use Prim.Native.Nat.{ℕ, suc, ◌+◌, ◌*◌, ◌-◌, ◌%◌, ◌≤◌, ◌<◌}
use native.Mathlib.Nat.{mod_self, suc-mod, add-mod}
use native.Mathlib.Omega.{arith}
use borrow.Author.Tests.{eqb-true, le-leb, lt-leb}
use lib.Count.{ones, ones_in}
use lib.Dec.{eqb}
use lib.ListN.{length, get_or}
use lib.Seq.{ext_get_or}
use Rattle.answers.proofs.Bytes.{bytes_entry}
use Rattle.answers.specs.Bytes.{Bytes}
use Rattle.hex_digits.proofs.Table.{below, at}
use Rattle.tables.proofs.Cases.{true_or_false, le_or_lt}
use Rattle.tables.specs.Sets.{byte}
use Rattle.ring.proofs.Back.{back_inside, back_on}
use Rattle.ring.specs.Ring.{back}
use Rattle.frames.proofs.Holds.{length_frames, holds_right, held_at}
use Rattle.frames.specs.Frames.{hold, is_hold, is_held, frames}
use Rattle.frames.specs.Promises.{holds_of, HoldsRight}
use Rattle.turn_mirror.specs.Mirrored.{reversed_bits, mirrored}
use Rattle.turn.proofs.Turned.{mirrored_if, index_inside, length_turned_by, turned_by_entry, length_turned, turned_entry}
use Rattle.turn.specs.Turned.{mirrors, reverses, turned_by, turned, turned_index}
use Rattle.price_tariff.proofs.Cost.{cost_held}
use Rattle.price_tariff.proofs.Sums.{sum_same, sum_added, sum_over, sum_reversed, sum_each, ones_summed}
use Rattle.price_tariff.specs.Sums.{bytes_total, cost_by_holds}
use Rattle.price_tariff.specs.Tariff.{prices, byte_price, hold_price, cost}
use Rattle.turn_laws.proofs.Occurrences.{turned_position, occurs_there, same_either}
use Rattle.turn_laws.proofs.Reversed.{reversed_only}
use Rattle.turn_laws.specs.Promises.{mirrored_frame, turned_frames, FramesTurned, OnesTurned, CostTurned}

-- the position from which the hold offset turned leads to i is, turned, the one from which the hold offset leads to i turned
position_back :
    (way m n q i : ℕ) → q < m → i < n → turned_position way m n (back n i (turned_index way m q)) ≡ back n (turned_index way n i) q
unfolding turned_index
position_back way m n q i h l =
    let some : 1 ≤ n = omega arith in
    let a = back n (n - 1 - i) q in
    let b = back n i (m - 1 - q) in
    let (whole, whole') : (a + (m + b) ≡ suc (a + q + (b + (m - 1 - q)))) × (suc (n - 1 - i + i) ≡ n) = (omega arith, omega arith) in
    let both : (a + q + (b + (m - 1 - q))) % n ≡ (n - 1 - i + i) % n =
    add-mod (a + q) (b + (m - 1 - q)) n
    ∙ rw (back_on n some (n - 1 - i) q, back_on n some i (m - 1 - q)) (sym (add-mod (n - 1 - i) i n)) in
    let turn : (a + (m + b)) % n ≡ 0 =
    rw (whole, suc-mod (a + q + (b + (m - 1 - q))) n, both) (sym (suc-mod (n - 1 - i + i) n) ∙ rw whole' (mod_self n)) in
    ⊎_elim
    (λ e. rw e (reversed_only m n some a b (back_inside n some (n - 1 - i) q) turn))
    (λ e. rw e)
    (true_or_false (reverses way))

-- frame i of the job turned is held just where frame i turned of the job is
pub held_turned :
    (way q : ℕ) (w t : List ℕ) → Bytes w → Bytes t → q < length w → (i : ℕ) → i < length t →
    is_held (turned_index way (length w) q) (turned way w) (turned way t) i ≡ is_held q w t (turned_index way (length t) i)
held_turned way q w t hw ht h i l =
    let q' = turned_index way (length w) q in
    let w' = turned way w in
    let t' = turned way t in
    let n = length t in
    let some : 1 ≤ length w = omega arith in
    let (size, size') : (length w' ≡ length w) × (length t' ≡ n) = (length_turned way w, length_turned way t) in
    held_at w' t' (omega arith) q' i (omega arith)
    ∙ rw (
      size',
      occurs_there way w t some hw ht (back n i q') (back_inside n (omega arith) i q'),
      position_back way (length w) n q i h l,
    )
    (sym (held_at w t some q (turned_index way n i) (index_inside way n i l)))

-- a hold mirrored is as it was, and a move mirrored is one with its byte mirrored
hold_stays : (g : ℕ) → hold ≤ g → mirrored_frame g ≡ g
unfolding mirrored_frame
hold_stays g h = rw (le-leb hold g h)

move_mirrored : (x : ℕ) → x < hold → mirrored_frame x ≡ mirrored x
unfolding mirrored_frame
move_mirrored x h = rw (lt-leb hold x h)

-- so also where it is mirrored only if the way mirrors
module _ (way : ℕ) where
  pub hold_as_it_was : (g : ℕ) → hold ≤ g → mirrored_if mirrored_frame way g ≡ g
  hold_as_it_was g h = ⊎_elim (λ e. rw e (hold_stays g h)) (λ e. rw e) (true_or_false (mirrors way))

  pub move_as_its_byte : (x : ℕ) → x < hold → mirrored_if mirrored_frame way x ≡ mirrored_if mirrored way x
  move_as_its_byte x h = ⊎_elim (λ e. rw e (move_mirrored x h)) (λ e. rw e) (true_or_false (mirrors way))

  frame_mirrored :
      (x : ℕ) (z : Bool) → x < hold →
      cond z hold (mirrored_if mirrored way x) ≡ mirrored_if mirrored_frame way (cond z hold x)
  frame_mirrored x true h = sym (hold_as_it_was hold (omega arith))
  frame_mirrored x false h = sym (move_as_its_byte x h)

pub frames_turned : FramesTurned
unfolding FramesTurned turned_frames HoldsRight
frames_turned way q w t hw ht h =
    let w' = turned way w in
    let t' = turned way t in
    let q' = turned_index way (length w) q in
    let sizes = length_turned way t in
    let sizes' = length_frames q w t in
    ext_get_or 0 _ _ (length_frames q' w' t' ∙ sizes ∙ sym (length_turned_by mirrored_frame way (frames q w t) ∙ sizes'))
    (λ i l.
    let inside : i < length t = rw (length_frames, length_turned) at l in
    let i' = turned_index way (length t) i in
    holds_right q' i w' t' (omega arith)
    ∙ rw (
      held_turned way q w t hw ht h i inside,
      turned_entry way t i inside,
      turned_by_entry mirrored_frame way (frames q w t) i (omega arith),
      sizes',
      holds_right q i' w t (index_inside way (length t) i inside),
    )
    (frame_mirrored way (byte t i') (is_held q w t i') (bytes_entry t ht i')))

-- the bits of a byte mirrored are those of the byte, in another order
ones_mirrored : (c : ℕ) → c < 256 → ones (mirrored c) ≡ ones c
ones_mirrored c h = eqb-true _ _ (at 256 (λ c. eqb (ones (mirrored c)) (ones c)) every c h)
  where
    every : below 256 (λ c. eqb (ones (mirrored c)) (ones c)) ≡ true
    every = unfold ones ones_in reversed_bits mirrored in refl

-- a sum over entries turned is the same, where each number is that of the entry mirrored
sum_turned :
    (f mirror : ℕ → ℕ) (way : ℕ) (xs : List ℕ) → ((i : ℕ) → f (mirror (get_or xs i 0)) ≡ f (get_or xs i 0)) →
    sum_over f (turned_by mirror way xs) ≡ sum_over f xs
unfolding turned_by
sum_turned f mirror way xs h =
    same_either (sum_over f) (reverses way) (sum_reversed f (cond (mirrors way) (map mirror xs) xs))
    ∙ same_either (sum_over f) (mirrors way) (sum_each f mirror xs h)

-- so is one of numbers that go by the ones of each byte
ones_sum_turned :
    (f : ℕ → ℕ) (way : ℕ) (t : List ℕ) → Bytes t →
    sum_over (λ c. f (ones c)) (turned way t) ≡ sum_over (λ c. f (ones c)) t
unfolding turned
ones_sum_turned f way t h = sum_turned (λ c. f (ones c)) mirrored way t (λ i. rw (ones_mirrored _ (bytes_entry t h i)))

pub ones_turned : OnesTurned
unfolding OnesTurned
ones_turned way t h = ones_summed (turned way t) ∙ ones_sum_turned (λ k. k) way t h ∙ sym (ones_summed t)

-- a frame mirrored is a hold just where the frame is
still_hold : (g : ℕ) → is_hold (mirrored_frame g) ≡ is_hold g
unfolding mirrored reversed_bits
still_hold g =
    ⊎_elim
    (λ h. rw (hold_stays g h))
    (λ l. rw (move_mirrored g l, lt-leb hold g l) (lt-leb hold (mirrored g) (omega arith)))
    (le_or_lt hold g)

-- the price of a hold for each hold, summed up
held_summed : (gs : List ℕ) → sum_over (λ g. 0 + cond (is_hold g) hold_price 0) gs ≡ hold_price * length (holds_of gs)
unfolding holds_of
held_summed gs =
    let added = sum_added (λ k. 0) (λ i. is_hold (get_or gs i 0)) (length gs) 0 in
    omega (arith, added, sum_same (λ k. 0) 0 (length gs) 0 (λ k l. refl))

-- so as many of the frames are holds
holds_turned : (way : ℕ) (gs : List ℕ) → length (holds_of (turned_frames way gs)) ≡ length (holds_of gs)
unfolding turned_frames
holds_turned way gs =
    let same = sum_turned (λ g. 0 + cond (is_hold g) hold_price 0) mirrored_frame way gs (λ i. rw still_hold) in
    omega (arith, held_summed gs, held_summed (turned_frames way gs), same)

-- and a text with these frames costs the same, turned
pub cost_alike :
    (way : ℕ) (t gs : List ℕ) → Bytes t → length gs ≡ length t → cost (turned way t) (turned_frames way gs) ≡ cost t gs
unfolding cost_by_holds bytes_total byte_price turned_frames
cost_alike way t gs h size =
    let sizes = length_turned_by mirrored_frame way gs ∙ size ∙ sym (length_turned way t) in
    rw (
      cost_held (turned way t) (turned_frames way gs) sizes,
      cost_held t gs size,
      holds_turned way gs,
      ones_sum_turned (λ k. get_or prices k 0) way t h,
      length_turned way t,
    )

pub cost_turned : CostTurned
unfolding CostTurned FramesTurned
cost_turned way q w t hw ht h =
    rw (frames_turned way q w t hw ht h) (cost_alike way t (frames q w t) ht (length_frames q w t))
