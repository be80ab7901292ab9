-- One rule: frames are a conversion by it just where each is a frame and the rule's holds are right. Frame by frame, by what is put back.
use mathlib.Core.Bool.{true, false}
use mathlib.Core.List.{List, [], ◌∷◌}
use mathlib.Core.Logic.{⊎_elim}
use mathlib.Core.Path.{◌≡◌, sym, ◌∙◌}
use Prim.Native.Nat.{ℕ, ◌<◌}
use native.Mathlib.Omega.{arith}
use lib.ListN.{length, get_or}
use Rattle.tables.proofs.Cases.{true_or_false, clash}
use Rattle.tables.proofs.Least.{each_all}
use Rattle.tables.specs.Least.{all_from}
use Rattle.tables.specs.Sets.{byte}
use Rattle.frames.specs.Frames.{hold}
use Rattle.restore_conversions.proofs.Restored.{held_again, again_held, each_again, all_frames}
use Rattle.restore_conversions.proofs.Walked.{each_right, right_each}
use Rattle.restore_conversions.specs.Restored.{is_frame, restored, converts_again, is_conversion}
use Rattle.restore_conversions.specs.Walk.{AllFrames, rule_right}

module _ (q : ℕ) (w gs : List ℕ) where
  -- where one is no frame they are no conversion
  pub frames_fail : all_from (length gs) 0 (λ i. is_frame 1 (get_or gs i 0)) ≡ false → is_conversion q w gs ≡ false
  frames_fail e =
      ⊎_elim
      (λ y. absurd (clash _ (each_all (length gs) 0 (λ i. is_frame 1 (get_or gs i 0)) (λ i l u. (all_frames q w gs y).frame i (omega arith))) e))
      (λ y. y)
      (true_or_false (is_conversion q w gs))

  -- and else the holds decide
  module _ (small : byte w q < hold) (frames : AllFrames 1 gs) where
    conversion_right : is_conversion q w gs ≡ true → rule_right hold q w (byte w q ∷ []) gs ≡ true
    unfolding restored
    conversion_right e = right_each hold q w (byte w q ∷ []) gs (λ i l. again_held q w gs i l small (each_again q w gs e i l))

    right_conversion : rule_right hold q w (byte w q ∷ []) gs ≡ true → is_conversion q w gs ≡ true
    unfolding is_conversion restored
    right_conversion e =
        each_all (length gs) 0 (converts_again q w gs)
        (λ i l u.
        let inside : i < length gs = omega arith in
        held_again q w gs i inside (frames.frame i inside) (each_right hold q w (byte w q ∷ []) gs e i inside))

    pub holds_decide : rule_right hold q w (byte w q ∷ []) gs ≡ is_conversion q w gs
    holds_decide =
        ⊎_elim
        (λ y. y ∙ sym (right_conversion y))
        (λ y. y ∙ sym (⊎_elim (λ z. absurd (clash _ (conversion_right z) y)) (λ z. z) (true_or_false (is_conversion q w gs))))
        (true_or_false (rule_right hold q w (byte w q ∷ []) gs))
