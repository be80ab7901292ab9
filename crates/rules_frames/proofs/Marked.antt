-- Which frame each byte gets by a list of rules (`FramesRight`, `HoldClaimed`): rule after rule
-- marks its holds, so it is a hold of the last rule that claims the byte. By induction on the
-- rules.
use mathlib.Core.Bool.{true, false, cond}
use mathlib.Core.List.{List, [], ◌∷◌}
use mathlib.Core.Logic.{◌⊎◌, inl, inr, ⊎_elim}
use mathlib.Core.Path.{◌≡◌, refl, sym, ◌∙◌}
use Prim.Native.Nat.{ℕ, suc, ◌+◌, ◌<◌}
use native.Mathlib.Omega.{arith}
use borrow.Author.Tests.{lt-ltb, le-leb, lt-leb}
use lib.ListN.{length, get_or}
use Rattle.answers.proofs.Bytes.{bytes_entry}
use Rattle.tables.proofs.Cases.{true_or_false}
use Rattle.tables.specs.Sets.{byte}
use Rattle.steps.specs.Occurrences.{occurrences}
use Rattle.frames.proofs.Holds.{with_holds_at, length_with_holds}
use Rattle.frames.specs.Frames.{hold, holds, with_holds}
use Rattle.rules.specs.Rules.{Rule, rule_of}
use Rattle.rules_claims.proofs.Twice.{counted, only}
use Rattle.rules_claims.specs.Claims.{claims, claimants}
use Rattle.rules_frames.specs.Promises.{FramesRight, HoldClaimed}
use Rattle.rules_frames.specs.RuleFrames.{hold_of, marked, rule_frames}

-- marking keeps the length
pub length_marked : (k : ℕ) (rs : List Rule) (t fs : List ℕ) → length (marked k rs t fs) ≡ length fs
unfolding marked
length_marked k [] t fs = refl
length_marked k (r ∷ rs) t fs = length_marked (suc k) rs t _ ∙ length_with_holds (hold_of k) _ fs

-- there are as many frames as bytes
pub length_rule_frames : (rs : List Rule) (t : List ℕ) → length (rule_frames rs t) ≡ length t
unfolding rule_frames
length_rule_frames rs t = length_marked 1 rs t t

-- byte i of t
module _ (t : List ℕ) (i : ℕ) where
  -- its frame after these rules have marked theirs over x
  unfoldable pub frame_from : (k : ℕ) → List Rule → (x : ℕ) → ℕ
  frame_from k [] x = x
  frame_from k (r ∷ rs) x = frame_from (suc k) rs (cond (claims r t i) (hold_of k) x)

  marked_at :
      (k : ℕ) (rs : List Rule) (fs : List ℕ) → i < length fs →
      get_or (marked k rs t fs) i 0 ≡ frame_from k rs (get_or fs i 0)
  unfolding marked claims frame_from
  marked_at k [] fs h = refl
  marked_at k (r ∷ rs) fs h =
      let here = holds (length t) r.hold_offset (occurrences r.pattern t) in
      marked_at (suc k) rs (with_holds (hold_of k) here fs) (rw length_with_holds h)
      ∙ rw (with_holds_at (hold_of k) i here fs h)

  -- a rule that claims it, and the frame of that rule's holds, where the first of the rules has
  -- number k
  pub record Claimed (k : ℕ) (rs : List Rule) (g : ℕ) : Type 0 where
    pub at : ℕ
    pub inside : at < length rs
    pub claimed : claims (rule_of rs at) t i ≡ true
    pub is : g ≡ hold_of (k + at)

  -- it is one of a rule that claims it, and x where none does
  pub frame_is :
      (k : ℕ) (rs : List Rule) (x : ℕ) →
      ((claimants rs t i ≡ 0) × (frame_from k rs x ≡ x)) ⊎ Claimed k rs (frame_from k rs x)
  unfolding frame_from claimants
  frame_is k [] x = inl (refl, refl)
  frame_is k (r ∷ rs) x =
      ⊎_elim
      (λ (y : claims r t i ≡ true).
      rw y
      (⊎_elim
      (λ none. inr record { at = 0; inside = omega arith; claimed = y; is = omega (arith, none.1) })
      (λ later. inr
      record {
        at = suc later.at;
        inside = omega (arith, later.inside);
        claimed = later.claimed;
        is = omega (arith, later.is);
      })
      (frame_is (suc k) rs (hold_of k))))
      (λ (y : claims r t i ≡ false).
      rw y
      (⊎_elim
      (λ none. inl none)
      (λ later. inr
      record {
        at = suc later.at;
        inside = omega (arith, later.inside);
        claimed = later.claimed;
        is = omega (arith, later.is);
      })
      (frame_is (suc k) rs x)))
      (true_or_false (claims r t i))

pub rule_frames_at :
    (rs : List Rule) (t : List ℕ) (i : ℕ) → i < length t → get_or (rule_frames rs t) i 0 ≡ frame_from t i 1 rs (byte t i)
unfolding rule_frames
rule_frames_at rs t i l = marked_at t i 1 rs t l

pub frames_right : FramesRight
unfolding FramesRight
frames_right rs t i l = (
  λ few k m y.
      rule_frames_at rs t i l
      ∙ ⊎_elim
      (λ none. absurd (omega (arith, none.0, counted t i rs k m y)))
      (λ (c : Claimed t i 1 rs (frame_from t i 1 rs (byte t i))).
      let same = only t i rs few c.at k c.inside m c.claimed y in
      omega (arith, c.is, same))
      (frame_is t i 1 rs (byte t i)),
  λ none.
      rule_frames_at rs t i l
      ∙ ⊎_elim
      (λ same. same.1)
      (λ (c : Claimed t i 1 rs (frame_from t i 1 rs (byte t i))).
      absurd (omega (arith, none, counted t i rs c.at c.inside c.claimed)))
      (frame_is t i 1 rs (byte t i)),
)

pub hold_claimed : HoldClaimed
unfolding HoldClaimed
hold_claimed rs t i b l =
    let x = byte t i in
    rw (rule_frames_at rs t i l)
    (⊎_elim
    (λ none. rw (none.0, none.1) (lt-leb hold x (bytes_entry t b i)))
    (λ (c : Claimed t i 1 rs (frame_from t i 1 rs x)).
    le-leb hold (frame_from t i 1 rs x) (omega (arith, c.is))
    ∙ sym (lt-ltb 0 (claimants rs t i) (counted t i rs c.at c.inside c.claimed)))
    (frame_is t i 1 rs x))
