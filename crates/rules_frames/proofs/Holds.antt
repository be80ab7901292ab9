-- Each rule's holds stand where its occurrences put them (`RuleHoldsRight`), and each occurrence
-- has a hold of its own (`AllHoldsOnce`): a frame names the only rule that claims its byte, and
-- so as many are holds as there are claims. By induction on the run of bytes.
use mathlib.Core.Bool.{Bool, true, false, cond}
use mathlib.Core.List.{List, ◌∷◌}
use mathlib.Core.Logic.{⊎_elim}
use mathlib.Core.Path.{◌≡◌, refl, sym, ◌∙◌}
use Prim.Native.Nat.{ℕ, zero, suc, ◌+◌, ◌≤◌, ◌<◌}
use native.Mathlib.Omega.{arith}
use borrow.Author.Tests.{eq-eqb, ne_eqb}
use lib.Dec.{eqb, ltb}
use lib.ListN.{length, get_or}
use Rattle.answers.proofs.Bytes.{bytes_entry}
use Rattle.answers.specs.Bytes.{Bytes}
use Rattle.tables.proofs.Cases.{true_or_false, clash}
use Rattle.tables.specs.Sets.{byte}
use Rattle.ring.proofs.Ascending.{passing_same}
use Rattle.ring.specs.Ring.{passing, ascending}
use Rattle.frames.specs.Frames.{is_hold}
use Rattle.frames.specs.Promises.{holds_of}
use Rattle.rules.specs.Rules.{Rule, rule_of}
use Rattle.rules_claims.proofs.Few.{times_claimed, next, none, all_found}
use Rattle.rules_claims.proofs.Twice.{once_each}
use Rattle.rules_claims.specs.Claims.{claims, claimants, claimed_twice}
use Rattle.rules_frames.proofs.Marked.{length_rule_frames, frame_from, Claimed, frame_is, rule_frames_at}
use Rattle.rules_frames.proofs.Marked.{frames_right, hold_claimed}
use Rattle.rules_frames.specs.Promises.{FramesRight, HoldClaimed, RuleHoldsRight, AllHoldsOnce}
use Rattle.rules_frames.specs.RuleFrames.{hold_of, rule_frames, holds_of_rule}

-- a frame is a hold of rule k just where rule k claims its byte
rule_held :
    (rs : List Rule) (t : List ℕ) (k i : ℕ) → Bytes t → claimed_twice rs t ≡ false → k < length rs → i < length t →
    eqb (get_or (rule_frames rs t) i 0) (hold_of (suc k)) ≡ claims (rule_of rs k) t i
unfolding FramesRight
rule_held rs t k i bytes once m l =
    ⊎_elim
    (λ (y : claims (rule_of rs k) t i ≡ true). eq-eqb _ _ ((frames_right rs t i l).0 (once_each rs t once i l) k m y) ∙ sym y)
    (λ (z : claims (rule_of rs k) t i ≡ false).
    ne_eqb (get_or (rule_frames rs t) i 0) (hold_of (suc k)) (λ e.
    ⊎_elim
    (λ none. omega (arith, none.1, rule_frames_at rs t i l, bytes_entry t bytes i))
    (λ (c : Claimed t i 1 rs (frame_from t i 1 rs (byte t i))).
    let same : c.at ≡ k = omega (arith, c.is, rule_frames_at rs t i l) in
    clash _ (rw same at c.claimed) z)
    (frame_is t i 1 rs (byte t i)))
    ∙ sym z)
    (true_or_false (claims (rule_of rs k) t i))

pub rule_holds_right : RuleHoldsRight
unfolding RuleHoldsRight holds_of_rule ascending claims
rule_holds_right rs t k bytes once m =
    rw (length_rule_frames rs t)
    (passing_same (length t) 0 _ (claims (rule_of rs k) t) (λ i l u. rule_held rs t k i bytes once m (omega arith)))

-- 1 for a test that is passed
abbrev one_if : Bool → ℕ
one_if z = cond z 1 0

-- the numbers of a run that pass are the first, if it does, and the later ones
passing_next : (n i : ℕ) (f : ℕ → Bool) → length (passing (suc n) i f) ≡ one_if (f i) + length (passing n (suc i) f)
unfolding passing
passing_next n i f = go (f i)
  where
    go :
        (z : Bool) →
        length (cond z (i ∷ passing n (suc i) f) (passing n (suc i) f)) ≡ one_if z + length (passing n (suc i) f)
    go true = omega arith
    go false = omega arith

-- a byte is claimed by one of the rules
abbrev is_claimed : List Rule → (t : List ℕ) → (i : ℕ) → Bool
is_claimed rs t i = ltb 0 (claimants rs t i)

-- at most one claimant counts as one just where there is one
one_claimant : (k : ℕ) → k ≤ 1 → one_if (ltb 0 k) ≡ k
one_claimant zero h = refl
one_claimant (suc zero) h = refl
one_claimant (suc (suc k)) h = absurd (omega arith)

-- where no byte is claimed twice, as many are claimed as there are claims
claimed_counted :
    (rs : List Rule) (t : List ℕ) (n i : ℕ) → ((k : ℕ) → i ≤ k → k < i + n → claimants rs t k ≤ 1) →
    length (passing n i (is_claimed rs t)) ≡ times_claimed t n i rs
unfolding passing
claimed_counted rs t zero i once = sym (none t i rs)
claimed_counted rs t (suc n) i once =
    let later = claimed_counted rs t n (suc i) (λ k l u. once k (omega arith) (omega arith)) in
    let here = one_claimant (claimants rs t i) (once i (omega arith) (omega arith)) in
    omega (arith, passing_next n i (is_claimed rs t), next t n i rs)

pub all_holds_once : AllHoldsOnce
unfolding AllHoldsOnce holds_of HoldClaimed
all_holds_once rs t some bytes once =
    rw (
      length_rule_frames rs t,
      passing_same (length t) 0 (λ i. is_hold (get_or (rule_frames rs t) i 0)) (is_claimed rs t)
          (λ i l u. hold_claimed rs t i bytes (omega arith)),
    )
    (claimed_counted rs t (length t) 0 (λ i l u. once_each rs t once i (omega arith)) ∙ sym (all_found t rs some))
