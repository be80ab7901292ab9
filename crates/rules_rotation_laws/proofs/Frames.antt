-- The frames of a ring started r bytes later, by a list of rules (`RuleFramesRotated`), whether a
-- byte of it is claimed twice (`TwiceRotated`) and its cost (`RulesCostRotated`). Each rule
-- claims a byte just where it claims the byte r further on around the ring, so that both get the
-- same frame.
use mathlib.Core.Bool.{true}
use mathlib.Core.List.{List, [], ◌∷◌}
use mathlib.Core.Logic.{⊎_elim}
use mathlib.Core.Path.{◌≡◌, refl, sym, ◌∙◌, ap}
use Prim.Native.Nat.{ℕ, zero, suc, ◌+◌, ◌%◌, ◌≤◌, ◌<◌}
use native.Mathlib.Nat.{mod-lt}
use native.Mathlib.Omega.{arith}
use borrow.Author.Tests.{le-leb}
use lib.ListN.{length}
use lib.Seq.{ext_get_or}
use Rattle.tables.proofs.Cases.{le_or_lt}
use Rattle.tables.specs.Least.{all_from}
use Rattle.steps.proofs.Text.{span_some}
use Rattle.steps.specs.Occurrences.{occurs, occurrences_from, all_occurrences, occurrences}
use Rattle.steps.specs.Text.{shown, span}
use Rattle.ring.proofs.Back.{back_inside, on_inverse, back_inverse}
use Rattle.ring.proofs.Listed.{is_in_passing_moved}
use Rattle.ring.specs.Ring.{back, passing}
use Rattle.frames.specs.Frames.{holds}
use Rattle.rotation_laws.proofs.Frames.{held_rotated, cost_alike}
use Rattle.rotation_laws.proofs.Rotated.{length_rotated, started_past, rotated_entry}
use Rattle.rotation_laws.specs.Promises.{rotated}
use Rattle.rules.specs.Rules.{Rule}
use Rattle.rules_claims.specs.Claims.{claims, claimants}
use Rattle.rules_frames.proofs.Marked.{length_rule_frames, frame_from, rule_frames_at}
use Rattle.rules_frames.specs.RuleFrames.{rule_frames}
use Rattle.rules_rotation_laws.proofs.Alike.{twice_moved}
use Rattle.rules_rotation_laws.specs.Promises.{RuleFramesRotated, TwiceRotated, RulesCostRotated}

-- the occurrences of a run of positions are those that pass
from_passing : (n b : ℕ) (f : ℕ → ℕ) (N : ℕ) (w : List ℕ) → occurrences_from n b f N w ≡ passing n b (occurs f N w)
unfolding occurrences_from passing
from_passing zero b f N w = refl
from_passing (suc n) b f N w = rw (from_passing n (suc b) f N w)

-- a rule whose pattern is empty claims each byte
empty_claims : (x : Rule) (t : List ℕ) (c : ℕ) → length x.pattern ≡ 0 → c < length t → claims x t c ≡ true
unfolding claims holds occurrences all_occurrences occurs all_from
empty_claims x t c none l =
    let w = x.pattern in
    let q = x.hold_offset in
    let n = length t in
    let test = occurs (shown t) (span w t) w in
    let size = span_some w t (omega arith) in
    let all : suc (span w t) ≡ n = omega arith in
    let listed : occurrences w t ≡ passing n 0 test =
    from_passing (suc (span w t)) 0 (shown t) (span w t) w ∙ ap (λ k. passing k 0 test) all in
    let there = back_inside n (omega arith) c q in
    let passes = le-leb (back n c q + 0) (span w t) (omega arith) in
    rw listed (is_in_passing_moved (on_inverse n q) test c l ∙ rw (none, passes))

-- byte c of the ring started later, and the byte r further on
module _ (r : ℕ) (t : List ℕ) (h : r ≤ length t) (c : ℕ) (l : c < length t) where
  abbrev u : List ℕ
  u = rotated r t

  abbrev there : ℕ
  there = (c + r) % length t

  -- a rule claims the one just where it claims the other
  claims_rotated : (x : Rule) → claims x u c ≡ claims x t there
  unfolding claims
  claims_rotated x =
      ⊎_elim
      (λ some. held_rotated r x.hold_offset x.pattern t some h c l)
      (λ none.
      empty_claims x u c (omega arith) (rw length_rotated l)
      ∙ sym (empty_claims x t there (omega arith) (mod-lt (c + r) (omega arith))))
      (le_or_lt 1 (length x.pattern))

  -- so as many rules claim both
  claimants_rotated : (rs : List Rule) → claimants rs u c ≡ claimants rs t there
  unfolding claimants
  claimants_rotated [] = refl
  claimants_rotated (x ∷ rs) = rw (claims_rotated x, claimants_rotated rs)

  -- and the rules mark the same over the same frame
  frame_rotated : (k : ℕ) (rs : List Rule) (g : ℕ) → frame_from u c k rs g ≡ frame_from t there k rs g
  unfolding frame_from
  frame_rotated k [] g = refl
  frame_rotated k (x ∷ rs) g = rw (claims_rotated x) (frame_rotated (suc k) rs _)

pub rule_frames_rotated : RuleFramesRotated
unfolding RuleFramesRotated
rule_frames_rotated r rs t =
    let u = rotated r t in
    let before = rule_frames rs t in
    let size = length_rotated r t in
    let size' = length_rule_frames rs t in
    ⊎_elim
    (λ past. rw (started_past r t past, started_past r before (omega arith)))
    (λ below.
    let h : r ≤ length t = omega arith in
    ext_get_or 0 _ (rotated r before) (length_rule_frames rs u ∙ size ∙ sym (length_rotated r before ∙ size'))
    (λ c l.
    let inside : c < length t = rw (length_rule_frames, length_rotated) at l in
    rule_frames_at rs u c (omega arith)
    ∙ rw (
      frame_rotated r t h c inside 1 rs _,
      rotated_entry r t h c inside,
      rotated_entry r before (omega arith) c (omega arith),
      size',
      rule_frames_at rs t ((c + r) % length t) (mod-lt (c + r) (omega arith)),
    )))
    (le_or_lt (length t) r)

pub twice_rotated : TwiceRotated
unfolding TwiceRotated
twice_rotated r rs t =
    ⊎_elim
    (λ past. rw (started_past r t past))
    (λ below.
    twice_moved rs rs t (rotated r t) (length_rotated r t) (back_inverse (length t) r)
    (λ c l. claimants_rotated r t (omega arith) c l rs))
    (le_or_lt (length t) r)

pub rules_cost_rotated : RulesCostRotated
unfolding RulesCostRotated RuleFramesRotated
rules_cost_rotated r rs t =
    rw (rule_frames_rotated r rs t) (cost_alike r t (rule_frames rs t) (length_rule_frames rs t))
