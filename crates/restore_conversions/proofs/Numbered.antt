-- Numbered holds: a frame is a move or 256 × k for a k from 1 to the count, and what each is put back to; by one rule it is 256 at most.
-- By the tests of the numbers.
use mathlib.Core.Bool.{true, cond, and-eq-true_iff}
use mathlib.Core.List.{List, [], ◌∷◌}
use mathlib.Core.Logic.{◌⊎◌, inl, inr, ⊎_elim}
use mathlib.Core.Path.{◌≡◌, sym, ◌∙◌, ap}
use Prim.Native.Nat.{ℕ, suc, ◌+◌, ◌-◌, ◌*◌, ◌/◌, ◌%◌, ◌≤◌, ◌<◌}
use native.Mathlib.Nat.{add-zero, zero-add}
use native.Mathlib.Omega.{arith}
use borrow.Author.Tests.{lt-ltb, le-ltb, leb-true, le-leb, lt-leb, eqb-true, eq-eqb, ne_eqb}
use lib.Dec.{leb, eqb}
use lib.ListN.{length, get_or, length-map, get_or-map}
use Rattle.tables.proofs.Cases.{true_or_false, clash, eq_or_ne, le_or_lt}
use Rattle.frames.specs.Frames.{hold, is_hold}
use Rattle.restore_conversions.specs.Restored.{is_frame, names_rule, restored_byte, all_restored}
use Rattle.restore_conversions.specs.Walk.{behind, ZeroFirst}

module _ (c g : ℕ) where
  pub move_is_frame : g < 256 → is_frame c g ≡ true
  unfolding is_frame
  move_is_frame l = rw (lt-ltb g 256 l)

  pub hold_is_frame : names_rule c g ≡ true → is_frame c g ≡ true
  unfolding names_rule
  hold_is_frame e = ((and-eq-true_iff (is_hold g) _).0 e).1

  pub frame_cases : is_frame c g ≡ true → (g < 256) ⊎ (names_rule c g ≡ true)
  unfolding names_rule
  frame_cases e = ⊎_elim (λ l. inr (rw (le-leb hold g l) e)) inl (le_or_lt 256 g)

  -- a frame that names a rule is 256 × k for a k from 1 to the count
  pub named : names_rule c g ≡ true → (k : ℕ) × (k < c) × (g ≡ 256 * suc k)
  unfolding names_rule is_frame
  named e =
      let (high, rest) = (and-eq-true_iff (is_hold g) _).0 e in
      let above : 256 ≤ g = leb-true _ _ high in
      let (whole, low) = (and-eq-true_iff (eqb (g % 256) 0) _).0 (rw (le-ltb g 256 above) at rest) in
      let (even, most) : (g % 256 ≡ 0) × (g / 256 ≤ c) = (eqb-true _ _ whole, leb-true _ _ low) in
      (g / 256 - 1, omega arith, omega arith)

-- and each of these names one
pub names : (c k : ℕ) → k < c → names_rule c (256 * suc k) ≡ true
unfolding names_rule is_frame
names c k l =
    let whole : 256 * suc k % 256 ≡ 0 = omega arith in
    rw (le-leb hold (256 * suc k) (omega arith), le-ltb (256 * suc k) hold (omega arith), eq-eqb (256 * suc k % 256) 0 whole)
    (le-leb (256 * suc k / 256) c (omega arith))

-- what a frame is put back to
module _ (hs : List ℕ) where
  pub length_back : (gs : List ℕ) → length (all_restored hs gs) ≡ length gs
  unfolding all_restored
  length_back gs = length-map gs _

  pub back_entry : (gs : List ℕ) (i : ℕ) → get_or (all_restored hs gs) i 0 ≡ restored_byte hs (get_or gs i 0)
  unfolding all_restored restored_byte names_rule
  back_entry gs i = get_or-map (restored_byte hs) gs i 0

  pub move_restored : (g : ℕ) → g < 256 → restored_byte hs g ≡ g
  unfolding restored_byte names_rule
  move_restored g l = rw (lt-leb hold g l)

  pub hold_restored : (k : ℕ) → k < length hs → restored_byte hs (256 * suc k) ≡ get_or hs k 0
  unfolding restored_byte
  hold_restored k l =
      let at : 256 * suc k / 256 - 1 ≡ k = omega arith in
      rw (names (length hs) k l, at)

  -- a frame that is no move names the rule whose byte stands there
  pub held_at_number : (g : ℕ) → is_frame (length hs) g ≡ true → 256 ≤ g → (g / 256 - 1 < length hs) × (restored_byte hs g ≡ get_or hs (g / 256 - 1) 0)
  unfolding restored_byte
  held_at_number g e l =
      ⊎_elim
      (λ m. absurd (omega arith))
      (λ y. let (k, inside, is) = named (length hs) g y in (omega arith, rw y))
      (frame_cases (length hs) g e)

-- a list with a 0 in front of the bytes held: the byte of a rule stands at its number, and a move finds the 0
module _ (bs : List ℕ) (zero : ZeroFirst bs) (g : ℕ) (e : is_frame (length (behind bs)) g ≡ true) where
  kinds : ((g < 256) × (get_or bs (g / 256) 0 ≡ 0)) ⊎ ((k : ℕ) × (k < length (behind bs)) × (g ≡ 256 * suc k))
  kinds =
      ⊎_elim
      (λ l. let none : g / 256 ≡ 0 = omega arith in inl (l, rw none (ap (λ l. get_or l 0 0) zero)))
      (λ y. inr (named (length (behind bs)) g y))
      (frame_cases (length (behind bs)) g e)

  pub number_inside : g / 256 < length bs
  number_inside =
      let size : length bs ≡ suc (length (behind bs)) = ap length zero in
      ⊎_elim (λ (l, none). omega arith) (λ (k, inside, is). omega arith) kinds

  -- so one of the two that are added is 0
  pub one_is_zero : (g % 256 ≡ 0) ⊎ (get_or bs (g / 256) 0 ≡ 0)
  one_is_zero = ⊎_elim (λ (l, none). inr none) (λ (k, inside, is). inl (omega arith)) kinds

  pub numbered_restored : g % 256 + get_or bs (g / 256) 0 ≡ restored_byte (behind bs) g
  numbered_restored =
      ⊎_elim
      (λ (l, none).
      let own : g % 256 ≡ g = omega arith in
      rw (none, own) (add-zero g ∙ sym (move_restored (behind bs) g l)))
      (λ (k, inside, is).
      let (at, whole) : (g / 256 ≡ suc k) × (g % 256 ≡ 0) = (omega arith, omega arith) in
      rw (at, whole) (zero-add _ ∙ ap (λ l. get_or l (suc k) 0) zero ∙ sym (rw (← is) at (hold_restored (behind bs) k inside))))
      kinds

-- the frames of one rule are those up to 256, and just 256 is its hold
module _ (g : ℕ) where
  pub one_low : is_frame 1 g ≡ true → g ≤ hold
  one_low e = ⊎_elim (λ l. omega arith) (λ y. let (k, low, is) = named 1 g y in omega arith) (frame_cases 1 g e)

  one_names : names_rule 1 g ≡ eqb g hold
  one_names =
      ⊎_elim
      (λ y. let (k, low, is) = named 1 g y in y ∙ sym (eq-eqb g hold (omega arith)))
      (λ y. y ∙ sym (ne_eqb g hold (λ e. clash (names_rule 1 g) (rw e (names 1 0 (omega arith))) y)))
      (true_or_false (names_rule 1 g))

  pub one_frame : is_frame 1 g ≡ leb g hold
  one_frame =
      ⊎_elim
      (λ l. ⊎_elim (λ e. hold_is_frame 1 g (one_names ∙ eq-eqb g hold e)) (λ d. move_is_frame 1 g (omega arith)) (eq_or_ne g hold) ∙ sym (le-leb g hold l))
      (λ u. ⊎_elim (λ y. absurd (omega (arith, one_low y))) (λ y. y) (true_or_false (is_frame 1 g)) ∙ sym (lt-leb g hold u))
      (le_or_lt g hold)

  pub restored_one : (c : ℕ) → restored_byte (c ∷ []) g ≡ cond (eqb g hold) c g
  unfolding restored_byte
  restored_one c =
      rw one_names (⊎_elim (λ y. rw (y, eqb-true g hold y)) (λ y. rw y) (true_or_false (eqb g hold)))
