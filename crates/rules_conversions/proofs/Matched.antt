-- Frames are a conversion just where each is a move or a hold of one of the rules and each rule's
-- holds are right. A frame is one number, so that where all rules' holds are right only one of them
-- claims its byte.
use mathlib.Core.Bool.{Bool, true, false}
use mathlib.Core.List.{List, [], ◌∷◌}
use mathlib.Core.Logic.{⊎_elim}
use mathlib.Core.Path.{◌≡◌, refl, sym, ◌∙◌}
use Prim.Native.Nat.{ℕ, suc, ◌+◌, ◌≤◌, ◌<◌}
use native.Mathlib.Omega.{arith}
use borrow.Author.Tests.{eqb-true, eq-eqb, ne_eqb}
use lib.Dec.{eqb}
use lib.ListN.{length, get_or}
use Rattle.answers.proofs.Bytes.{bytes_entry}
use Rattle.answers.specs.Bytes.{Bytes}
use Rattle.tables.proofs.Cases.{true_or_false, clash}
use Rattle.tables.proofs.Least.{each_all}
use Rattle.tables.specs.Least.{all_from}
use Rattle.tables.specs.Sets.{byte}
use Rattle.restore_conversions.proofs.Numbered.{named, frame_cases, move_restored}
use Rattle.restore_conversions.proofs.Walked.{each_right, right_each}
use Rattle.restore_conversions.specs.Restored.{is_frame}
use Rattle.restore_conversions.specs.Walk.{AllFrames, rule_right}
use Rattle.rules.specs.Rules.{Rule, rule_of}
use Rattle.rules_claims.proofs.Twice.{counted, only, once_each, each_once}
use Rattle.rules_claims.specs.Claims.{claims, claimants}
use Rattle.rules_frames.specs.RuleFrames.{hold_of}
use Rattle.rules_conversions.proofs.Restored.{HeldBy, framed, length_restored, restored_entry, again}
use Rattle.rules_conversions.proofs.Restored.{is_converts_again, tests_passed, both, each_again, all_frames}
use Rattle.rules_conversions.proofs.Restored.{restored_bytes}
use Rattle.rules_conversions.specs.Conversions.{all_held, restored, is_conversion}
use Rattle.rules_conversions.specs.Promises.{RestoredBytes}

-- rule by rule: frame i is a hold of rule j + 1 just where that rule claims what is put back
module _ (rs : List Rule) (gs : List ℕ) where
  -- the holds of rule j + 1 are right
  abbrev pub right_of : (j : ℕ) → Bool
  right_of j = rule_right (hold_of (suc j)) (rule_of rs j).hold_offset (rule_of rs j).pattern (all_held rs) gs

  module _ (i : ℕ) (inside : i < length gs) where
    abbrev t : List ℕ
    t = restored rs gs

    abbrev Matches : (k : ℕ) → List Rule → Type 0
    Matches k rest = (j : ℕ) → j < length rest → eqb (get_or gs i 0) (hold_of (k + j)) ≡ claims (rule_of rest j) t i

    later : (k : ℕ) (r : Rule) (rest : List Rule) → Matches k (r ∷ rest) → Matches (suc k) rest
    later k r rest m j l =
        let number : suc k + j ≡ k + suc j = omega arith in
        rw number (m (suc j) (omega arith))

    -- a frame is one number: so only one rule claims its byte
    none_claims : (k : ℕ) (rest : List Rule) → Matches k rest → get_or gs i 0 < hold_of k → claimants rest t i ≡ 0
    unfolding claimants
    none_claims k [] m low = refl
    none_claims k (r ∷ rest) m low =
        let first = sym (m 0 (omega arith)) ∙ ne_eqb (get_or gs i 0) (hold_of (k + 0)) (λ e. omega arith) in
        rw first (none_claims (suc k) rest (later k r rest m) (omega arith))

    few_claim : (k : ℕ) (rest : List Rule) → Matches k rest → claimants rest t i ≤ 1
    unfolding claimants
    few_claim k [] m = omega arith
    few_claim k (r ∷ rest) m =
        ⊎_elim
        (λ y.
        let is : get_or gs i 0 ≡ hold_of (k + 0) = eqb-true _ _ (m 0 (omega arith) ∙ y) in
        rw y (omega (arith, none_claims (suc k) rest (later k r rest m) (omega arith))))
        (λ y. rw y (few_claim (suc k) rest (later k r rest m)))
        (true_or_false (claims r t i))

    -- and the frame is converted to again
    match_again : Matches 1 rs → is_frame (length rs) (get_or gs i 0) ≡ true → again rs gs i ≡ get_or gs i 0
    match_again m one =
        let at : i < length t = rw (length_restored rs gs) inside in
        ⊎_elim
        (λ unclaimed.
        unclaimed.1
        ∙ restored_entry rs gs i
        ∙ ⊎_elim
        (λ low. move_restored (all_held rs) (get_or gs i 0) low)
        (λ y.
        let (k, l, is) = named (length rs) (get_or gs i 0) y in
        absurd (omega
        (arith, unclaimed.0, counted t i rs k l (sym (m k l) ∙ eq-eqb (get_or gs i 0) (hold_of (1 + k)) (omega arith)))))
        (frame_cases (length rs) (get_or gs i 0) one))
        (λ (c : HeldBy rs t i).
        c.is ∙ sym (eqb-true _ _ (m c.at c.inside ∙ c.claimed)))
        (framed rs t i at)

    -- the other way round
    again_match : claimants rs t i ≤ 1 → byte t i < 256 → again rs gs i ≡ get_or gs i 0 → Matches 1 rs
    again_match few low same j l =
        let at : i < length t = rw (length_restored rs gs) inside in
        let is = sym same in
        ⊎_elim
        (λ (y : claims (rule_of rs j) t i ≡ true).
        ⊎_elim
        (λ unclaimed. absurd (omega (arith, unclaimed.0, counted t i rs j l y)))
        (λ (c : HeldBy rs t i).
        eq-eqb (get_or gs i 0) (hold_of (1 + j))
        (omega (arith, is, c.is, only t i rs few c.at j c.inside l c.claimed y))
        ∙ sym y)
        (framed rs t i at))
        (λ (y : claims (rule_of rs j) t i ≡ false).
        ne_eqb (get_or gs i 0) (hold_of (1 + j))
        (λ e.
        ⊎_elim
        (λ unclaimed. omega (arith, unclaimed.1, is, e))
        (λ (c : HeldBy rs t i).
        let here : c.at ≡ j = omega (arith, is, c.is, e) in
        clash _ (rw here at c.claimed) y)
        (framed rs t i at))
        ∙ sym y)
        (true_or_false (claims (rule_of rs j) t i))

  -- where each rule's holds are right, each frame matches all rules
  matched : ((j : ℕ) → j < length rs → right_of j ≡ true) → (i : ℕ) (inside : i < length gs) → Matches i inside 1 rs
  unfolding claims restored
  matched right i inside j l =
      let number : 1 + j ≡ suc j = omega arith in
      rw number (each_right (hold_of (suc j)) (rule_of rs j).hold_offset (rule_of rs j).pattern (all_held rs) gs
      (right j l) i inside)

  -- so that they are a conversion
  pub all_right : AllFrames (length rs) gs → ((j : ℕ) → j < length rs → right_of j ≡ true) → is_conversion rs gs ≡ true
  all_right frames right =
      tests_passed rs gs
      (each_once rs (restored rs gs) (λ i l.
      let inside : i < length gs = omega (arith, length_restored rs gs) in
      few_claim i inside 1 rs (matched right i inside)))
      (λ i inside.
      is_converts_again rs gs i (frames.frame i inside)
      (match_again i inside (matched right i inside) (frames.frame i inside)))

  -- and no other frames are
  right_each_rule : Bytes (all_held rs) → is_conversion rs gs ≡ true → (j : ℕ) → j < length rs → right_of j ≡ true
  unfolding claims restored RestoredBytes
  right_each_rule p e j l =
      right_each (hold_of (suc j)) (rule_of rs j).hold_offset (rule_of rs j).pattern (all_held rs) gs
      (λ i inside.
      let number : 1 + j ≡ suc j = omega arith in
      let at : i < length (restored rs gs) = rw (length_restored rs gs) inside in
      rw number at
      (again_match i inside
      (once_each rs (restored rs gs) (both rs gs e).0 i at) (bytes_entry _ (restored_bytes rs gs p e) i)
      (each_again rs gs e i inside).1 j l))

  -- where the holds of a rule are not right the frames are no conversion
  pub wrong_fails : Bytes (all_held rs) → (j : ℕ) → j < length rs → right_of j ≡ false → is_conversion rs gs ≡ false
  wrong_fails p j l wrong =
      ⊎_elim (λ e. absurd (clash _ (right_each_rule p e j l) wrong)) (λ e. e) (true_or_false (is_conversion rs gs))

  -- nor are they where one of them is no frame
  pub frames_fail :
      all_from (length gs) 0 (λ i. is_frame (length rs) (get_or gs i 0)) ≡ false → is_conversion rs gs ≡ false
  frames_fail wrong =
      ⊎_elim
      (λ e.
      absurd (clash _
      (each_all (length gs) 0 (λ i. is_frame (length rs) (get_or gs i 0))
      (λ i l u. (all_frames rs gs e).frame i (omega arith))) wrong))
      (λ e. e)
      (true_or_false (is_conversion rs gs))
