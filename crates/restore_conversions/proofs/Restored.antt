-- Frames put back, frame by frame: which of them what is put back converts to again, both round trips, and that the test is the meaning (`TestRight`).
-- A frame is a hold just where an occurrence has its named byte; there the text shows w(q), which is what a hold becomes.
use mathlib.Core.Bool.{Bool, true, false, cond, and-eq-true_iff}
use mathlib.Core.List.{List, [], ◌∷◌}
use mathlib.Core.Logic.{⊎_elim}
use mathlib.Core.Path.{◌≡◌, refl, sym, ◌∙◌, ap}
use Prim.Native.Nat.{ℕ, ◌+◌, ◌≤◌, ◌<◌}
use native.Mathlib.Nat.{mod-eq_of_lt}
use native.Mathlib.Omega.{arith}
use borrow.Author.Tests.{eqb-true, eqb-false, eq-eqb, ne_eqb}
use lib.Dec.{eqb}
use lib.ListN.{length, get_or}
use lib.Seq.{ext_get_or}
use Rattle.answers.proofs.Bytes.{bytes_entry, each_byte}
use Rattle.answers.specs.Bytes.{Bytes}
use Rattle.tables.proofs.Cases.{true_or_false}
use Rattle.tables.proofs.Least.{all_each, each_all}
use Rattle.tables.specs.Sets.{byte}
use Rattle.steps.proofs.Occurrences.{occurs_agrees}
use Rattle.steps.proofs.Text.{shown_at}
use Rattle.steps.specs.Text.{shown, span}
use Rattle.ring.proofs.Back.{back_on}
use Rattle.ring.specs.Ring.{back}
use Rattle.frames.proofs.Holds.{length_frames, holds_right, held_at}
use Rattle.frames.specs.Frames.{hold, is_held, frames}
use Rattle.frames.specs.Promises.{HoldsRight}
use Rattle.restore_conversions.proofs.Numbered.{move_is_frame, length_back, back_entry, one_low, one_frame, restored_one}
use Rattle.restore_conversions.specs.Promises.{TestRight, ConvertedRestored, ConversionInjective, RestoredConverted, RestoredBytes}
use Rattle.restore_conversions.specs.Restored.{is_frame, restored, converts_again, is_conversion}
use Rattle.restore_conversions.specs.Walk.{AllFrames}

-- a frame that is a hold just where `held` says so is converted to again; where a byte is put for a hold, no other is
module _ (c g : ℕ) where
  same_held : (held : Bool) → eqb g hold ≡ held → cond held hold (cond held c g) ≡ g
  same_held true e = sym (eqb-true g hold e)
  same_held false e = refl

  held_same : (held : Bool) → c < hold → cond held hold (cond (eqb g hold) c g) ≡ g → eqb g hold ≡ held
  held_same true h e = eq-eqb g hold (sym e)
  held_same false h e = ⊎_elim (λ y. absurd (omega (arith, rw y at e, eqb-true g hold y))) (λ y. y) (true_or_false (eqb g hold))

  -- what a move or a hold becomes is a byte
  byte_back : c < 256 → g ≤ hold → cond (eqb g hold) c g < 256
  byte_back h l = ⊎_elim (λ y. rw y h) (λ y. rw y (omega (arith, eqb-false g hold y))) (true_or_false (eqb g hold))

-- a byte x, or a hold in its place where x is held, is a move or a hold, and becomes x again
module _ (x : ℕ) (h : x < 256) where
  move_or_hold : (held : Bool) → is_frame 1 (cond held hold x) ≡ true
  move_or_hold true = one_frame hold
  move_or_hold false = move_is_frame 1 x h

  byte_again : (c : ℕ) (held : Bool) → (held ≡ true → c ≡ x) → cond (eqb (cond held hold x) hold) c (cond held hold x) ≡ x
  byte_again c true e = e refl
  byte_again c false e = rw (ne_eqb x hold (λ e. omega arith))

module _ (q : ℕ) (w gs : List ℕ) where
  pub length_restored : length (restored q w gs) ≡ length gs
  unfolding restored
  length_restored = length_back (byte w q ∷ []) gs

  restored_entry : (i : ℕ) → get_or (restored q w gs) i 0 ≡ cond (eqb (get_or gs i 0) hold) (byte w q) (get_or gs i 0)
  unfolding restored
  restored_entry i = back_entry (byte w q ∷ []) gs i ∙ restored_one (get_or gs i 0) (byte w q)

  module _ (i : ℕ) where
    -- frame i is put back and converted again
    abbrev again : ℕ
    again = get_or (frames q w (restored q w gs)) i 0

    converts_again_is : converts_again q w gs i ≡ true → (is_frame 1 (get_or gs i 0) ≡ true) × (again ≡ get_or gs i 0)
    unfolding converts_again
    converts_again_is e =
        let (frame, same) = (and-eq-true_iff (is_frame 1 (get_or gs i 0)) _).0 e in
        (frame, eqb-true _ _ same)

    is_converts_again : is_frame 1 (get_or gs i 0) ≡ true → again ≡ get_or gs i 0 → converts_again q w gs i ≡ true
    unfolding converts_again
    is_converts_again frame same = rw frame (eq-eqb _ _ same)

    -- a move or a hold is converted to again just where it is a hold for an occurrence of what is put back
    module _ (inside : i < length gs) where
      abbrev held : Bool
      held = is_held q w (restored q w gs) i

      again_is : again ≡ cond held hold (cond (eqb (get_or gs i 0) hold) (byte w q) (get_or gs i 0))
      unfolding HoldsRight
      again_is = holds_right q i w (restored q w gs) (rw length_restored inside) ∙ rw (restored_entry i)

      pub held_again : is_frame 1 (get_or gs i 0) ≡ true → eqb (get_or gs i 0) hold ≡ held → converts_again q w gs i ≡ true
      held_again frame same = is_converts_again frame (again_is ∙ rw (← same) (same_held (byte w q) (get_or gs i 0) (eqb (get_or gs i 0) hold) refl))

      pub again_held : byte w q < hold → converts_again q w gs i ≡ true → eqb (get_or gs i 0) hold ≡ held
      again_held small e = held_same (byte w q) (get_or gs i 0) held small (sym again_is ∙ (converts_again_is e).1)

-- where a frame is a hold, the text has w(q)
pub byte_held : (q i : ℕ) (w t : List ℕ) → q < length w → i < length t → is_held q w t i ≡ true → byte w q ≡ byte t i
byte_held q i w t h l e =
    let (n, b) : ℕ × ℕ = (length t, back (length t) i q) in
    occurs_agrees (shown t) (span w t) w b (sym (held_at w t (omega arith) q i l) ∙ e) q h
    ∙ shown_at t (b + q)
    ∙ rw (back_on n (omega arith) i q, mod-eq_of_lt l)

pub converted_restored : ConvertedRestored
unfolding ConvertedRestored HoldsRight
converted_restored q w t b h =
    let size = length_frames q w t in
    ext_get_or 0 _ t (length_restored q w (frames q w t) ∙ size)
    (λ i l.
    let inside : i < length t = rw (length_restored, length_frames) at l in
    restored_entry q w (frames q w t) i
    ∙ rw (holds_right q i w t inside)
    (byte_again (byte t i) (bytes_entry t b i) (byte w q) (is_held q w t i) (byte_held q i w t h inside)))

pub conversion_injective : ConversionInjective
unfolding ConversionInjective ConvertedRestored
conversion_injective q w t u b b' h e =
    sym (converted_restored q w t b h) ∙ ap (restored q w) e ∙ converted_restored q w u b' h

-- each frame of a conversion is converted to again
module _ (q : ℕ) (w gs : List ℕ) (e : is_conversion q w gs ≡ true) where
  pub each_again : (i : ℕ) → i < length gs → converts_again q w gs i ≡ true
  unfolding is_conversion
  each_again i l = all_each (length gs) 0 (converts_again q w gs) e i (omega arith) (omega arith)

  -- so it is a move or a hold
  pub all_frames : AllFrames 1 gs
  all_frames = record { frame = λ i l. (converts_again_is q w gs i (each_again i l)).0 }

pub restored_converted : RestoredConverted
unfolding RestoredConverted
restored_converted q w gs e =
    ext_get_or 0 _ gs (length_frames q w (restored q w gs) ∙ length_restored q w gs)
    (λ i l. (converts_again_is q w gs i (each_again q w gs e i (rw (length_frames, length_restored) at l))).1)

pub restored_bytes : RestoredBytes
unfolding RestoredBytes
restored_bytes q w gs b e =
    let size = length_restored q w gs in
    each_byte (restored q w gs)
    (λ i l.
    let inside : i < length gs = omega arith in
    rw (restored_entry q w gs i) (byte_back (byte w q) (get_or gs i 0) (bytes_entry w b q) (one_low _ ((all_frames q w gs e).frame i inside))))

-- what some text of bytes converts to passes the test
pub frames_pass : (q : ℕ) (w t : List ℕ) → Bytes t → q < length w → is_conversion q w (frames q w t) ≡ true
unfolding ConvertedRestored is_conversion HoldsRight
frames_pass q w t b h =
    each_all (length (frames q w t)) 0 (converts_again q w (frames q w t))
    (λ i l u.
    is_converts_again q w (frames q w t) i
    (rw (holds_right q i w t (omega (arith, length_frames q w t))) (move_or_hold (byte t i) (bytes_entry t b i) (is_held q w t i)))
    (rw (converted_restored q w t b h)))

pub test_right : TestRight
unfolding TestRight RestoredConverted RestoredBytes
test_right q w gs b h = (
  λ e. record { text = restored q w gs; bytes = restored_bytes q w gs b e; converts = restored_converted q w gs e },
  λ c. rw c.converts at (frames_pass q w c.text c.bytes h),
)
