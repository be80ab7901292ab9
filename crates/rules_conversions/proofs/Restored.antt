-- Frames put back by a list of rules, frame by frame: both round trips, that conversion is
-- injective, and that the test is the meaning (`TestRight`). A byte's frame is a move, or the hold
-- of a rule that claims it; there the text shows what that rule holds.
use mathlib.Core.Bool.{true, false, not, and-eq-true_iff}
use mathlib.Core.List.{List, [], ◌∷◌}
use mathlib.Core.Logic.{◌⊎◌, ⊎_elim}
use mathlib.Core.Path.{◌≡◌, refl, sym, ◌∙◌, ap}
use Prim.Native.Nat.{ℕ, zero, suc, ◌+◌, ◌<◌}
use native.Mathlib.Omega.{arith}
use borrow.Author.Tests.{eqb-true, eq-eqb, not-true}
use lib.ListN.{length, get_or, length-map}
use lib.Seq.{ext_get_or}
use Rattle.answers.proofs.Bytes.{bytes_entry, each_byte}
use Rattle.answers.specs.Bytes.{Bytes}
use Rattle.tables.proofs.Least.{all_each, each_all}
use Rattle.tables.specs.Least.{all_from}
use Rattle.tables.specs.Sets.{byte}
use Rattle.restore_conversions.proofs.Numbered.{named, names, length_back, back_entry, frame_cases, move_is_frame}
use Rattle.restore_conversions.proofs.Numbered.{hold_is_frame, move_restored, hold_restored}
use Rattle.restore_conversions.proofs.Restored.{byte_held}
use Rattle.restore_conversions.specs.Restored.{is_frame, restored_byte}
use Rattle.restore_conversions.specs.Walk.{AllFrames}
use Rattle.rules.proofs.Taken.{inside_each}
use Rattle.rules.specs.Rules.{Rule, held, rule_of, Inside}
use Rattle.rules_claims.specs.Claims.{claims, claimants, claimed_twice}
use Rattle.rules_frames.proofs.Marked.{length_rule_frames, rule_frames_at, Claimed, frame_is}
use Rattle.rules_frames.specs.RuleFrames.{hold_of, rule_frames}
use Rattle.rules_conversions.specs.Conversions.{all_held, restored, converts_again, is_conversion}
use Rattle.rules_conversions.specs.Promises.{TestRight, ConvertedRestored, ConversionInjective}
use Rattle.rules_conversions.specs.Promises.{RestoredConverted, RestoredBytes}

-- the bytes held, rule by rule
pub held_entry : (rs : List Rule) (j : ℕ) → j < length rs → get_or (all_held rs) j 0 ≡ held (rule_of rs j)
held_entry [] j l = absurd (omega arith)
held_entry (r ∷ rs) zero l = refl
held_entry (r ∷ rs) (suc j) l = held_entry rs j (omega arith)

-- byte i of t and its frame: a move where no rule claims it, and else a hold of one that does
module _ (rs : List Rule) (t : List ℕ) (i : ℕ) where
  abbrev pub HeldBy : Type 0
  HeldBy = Claimed t i 1 rs (get_or (rule_frames rs t) i 0)

  pub framed : i < length t → ((claimants rs t i ≡ 0) × (get_or (rule_frames rs t) i 0 ≡ byte t i)) ⊎ HeldBy
  framed l = rw (rule_frames_at rs t i l) (frame_is t i 1 rs (byte t i))

module _ (rs : List Rule) where
  size : length (all_held rs) ≡ length rs
  size = length-map rs held

  -- as many bytes are put back as there are frames
  pub length_restored : (gs : List ℕ) → length (restored rs gs) ≡ length gs
  unfolding restored
  length_restored gs = length_back (all_held rs) gs

  -- each of them by its frame
  pub restored_entry : (gs : List ℕ) (i : ℕ) → get_or (restored rs gs) i 0 ≡ restored_byte (all_held rs) (get_or gs i 0)
  unfolding restored
  restored_entry gs i = back_entry (all_held rs) gs i

  -- a hold of rule j + 1 becomes the byte that it holds
  hold_back : (g j : ℕ) → j < length rs → g ≡ hold_of (suc j) → restored_byte (all_held rs) g ≡ held (rule_of rs j)
  hold_back g j l is = rw is (hold_restored (all_held rs) j (omega (arith, size)) ∙ held_entry rs j l)

  -- where a rule claims a byte, the text has the one that it holds
  claimed_byte :
      (t : List ℕ) (i j : ℕ) → Inside rs → j < length rs → i < length t → claims (rule_of rs j) t i ≡ true →
      held (rule_of rs j) ≡ byte t i
  unfolding claims held
  claimed_byte t i j h m l y = byte_held _ i _ t (inside_each rs h j m) l y

-- a byte's frame is put back to it
module _ (rs : List Rule) (t : List ℕ) (b : Bytes t) (i : ℕ) (l : i < length t) where
  byte_back : Inside rs → restored_byte (all_held rs) (get_or (rule_frames rs t) i 0) ≡ byte t i
  byte_back h =
      ⊎_elim
      (λ move. rw move.1 (move_restored (all_held rs) (byte t i) (bytes_entry t b i)))
      (λ (c : HeldBy rs t i).
      hold_back rs _ c.at c.inside (omega (arith, c.is))
      ∙ claimed_byte rs t i c.at h c.inside l c.claimed)
      (framed rs t i l)

  -- and is a move or a hold of one of the rules
  move_or_hold : is_frame (length rs) (get_or (rule_frames rs t) i 0) ≡ true
  move_or_hold =
      ⊎_elim
      (λ move. rw move.1 (move_is_frame (length rs) (byte t i) (bytes_entry t b i)))
      (λ (c : HeldBy rs t i).
      let number : 1 + c.at ≡ suc c.at = omega arith in
      rw (c.is, number) (hold_is_frame (length rs) _ (names (length rs) c.at c.inside)))
      (framed rs t i l)

pub converted_restored : ConvertedRestored
unfolding ConvertedRestored
converted_restored rs t b h =
    ext_get_or 0 _ t (length_restored rs (rule_frames rs t) ∙ length_rule_frames rs t)
    (λ i l.
    let inside : i < length t = rw (length_restored, length_rule_frames) at l in
    restored_entry rs (rule_frames rs t) i ∙ byte_back rs t b i inside h)

pub conversion_injective : ConversionInjective
unfolding ConversionInjective ConvertedRestored
conversion_injective rs t u b b' h e =
    sym (converted_restored rs t b h) ∙ ap (restored rs) e ∙ converted_restored rs u b' h

module _ (rs : List Rule) (gs : List ℕ) where
  module _ (i : ℕ) where
    abbrev pub again : ℕ
    again = get_or (rule_frames rs (restored rs gs)) i 0

    converts_again_is :
        converts_again rs gs i ≡ true → (is_frame (length rs) (get_or gs i 0) ≡ true) × (again ≡ get_or gs i 0)
    unfolding converts_again
    converts_again_is e =
        let (one, same) = (and-eq-true_iff (is_frame (length rs) (get_or gs i 0)) _).0 e in
        (one, eqb-true _ _ same)

    pub is_converts_again :
        is_frame (length rs) (get_or gs i 0) ≡ true → again ≡ get_or gs i 0 → converts_again rs gs i ≡ true
    unfolding converts_again
    is_converts_again one same = rw one (eq-eqb _ _ same)

  -- the two tests
  pub tests_passed :
      claimed_twice rs (restored rs gs) ≡ false → ((i : ℕ) → i < length gs → converts_again rs gs i ≡ true) →
      is_conversion rs gs ≡ true
  unfolding is_conversion
  tests_passed once each = rw once (each_all (length gs) 0 (converts_again rs gs) (λ i l u. each i (omega arith)))

  module _ (e : is_conversion rs gs ≡ true) where
    pub both : (claimed_twice rs (restored rs gs) ≡ false) × (all_from (length gs) 0 (converts_again rs gs) ≡ true)
    unfolding is_conversion
    both =
        let (once, each) = (and-eq-true_iff (not (claimed_twice rs (restored rs gs))) _).0 e in
        (not-true _ once, each)

    pub each_again : (i : ℕ) → i < length gs → (is_frame (length rs) (get_or gs i 0) ≡ true) × (again i ≡ get_or gs i 0)
    each_again i l =
        converts_again_is i (all_each (length gs) 0 (converts_again rs gs) both.1 i (omega arith) (omega arith))

    pub all_frames : AllFrames (length rs) gs
    all_frames = record { frame = λ i l. (each_again i l).0 }

pub restored_converted : RestoredConverted
unfolding RestoredConverted
restored_converted rs gs e = (
  ext_get_or 0 _ gs (length_rule_frames rs (restored rs gs) ∙ length_restored rs gs)
      (λ i l. (each_again rs gs e i (rw (length_rule_frames, length_restored) at l)).1),
  (both rs gs e).0,
)

-- the byte that a rule holds is one
held_small : (rs : List Rule) → Bytes (all_held rs) → (j : ℕ) → j < length rs → held (rule_of rs j) < 256
held_small rs p j l = rw (held_entry rs j l) at (bytes_entry (all_held rs) p j)

-- what a move or a hold becomes is a byte
pub restored_small :
    (rs : List Rule) → Bytes (all_held rs) → (g : ℕ) → is_frame (length rs) g ≡ true →
    restored_byte (all_held rs) g < 256
restored_small rs p g e =
    ⊎_elim
    (λ l. rw (move_restored (all_held rs) g l) l)
    (λ y.
    let (k, inside, is) = named (length rs) g y in
    rw (hold_back rs g k inside is) (held_small rs p k inside))
    (frame_cases (length rs) g e)

pub restored_bytes : RestoredBytes
unfolding RestoredBytes
restored_bytes rs gs p e =
    each_byte (restored rs gs)
    (λ i l.
    let inside : i < length gs = omega (arith, length_restored rs gs) in
    rw (restored_entry rs gs i) (restored_small rs p (get_or gs i 0) (each_again rs gs e i inside).0))

-- what some text of bytes, none of which is claimed twice, converts to passes the test
pub frames_pass :
    (rs : List Rule) (t : List ℕ) → Bytes t → Inside rs → claimed_twice rs t ≡ false →
    is_conversion rs (rule_frames rs t) ≡ true
unfolding ConvertedRestored
frames_pass rs t b h once =
    let back = converted_restored rs t b h in
    tests_passed rs (rule_frames rs t) (rw back once)
    (λ i l.
    let inside : i < length t = rw length_rule_frames at l in
    is_converts_again rs (rule_frames rs t) i (move_or_hold rs t b i inside) (rw back))

pub test_right : TestRight
unfolding TestRight RestoredConverted RestoredBytes
test_right rs gs p h = (
  λ e.
      let (converts, once) = restored_converted rs gs e in
      record { text = restored rs gs; bytes = restored_bytes rs gs p e; once = once; converts = converts },
  λ c. rw c.converts at (frames_pass rs c.text c.bytes h c.once),
)
