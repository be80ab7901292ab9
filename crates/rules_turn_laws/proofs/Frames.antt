-- The frames of rules and a ring turned alike (`RuleFramesTurned`), whether a byte is claimed
-- twice (`TwiceTurned`) and their cost (`RulesCostTurned`). Each rule turned claims a byte just
-- where the rule claims the byte at the turned index, so that this has the frame, mirrored.
use mathlib.Core.Bool.{Bool, true, false, cond}
use mathlib.Core.List.{List, [], ◌∷◌}
use mathlib.Core.Path.{◌≡◌, refl, sym, ◌∙◌, ap}
use Prim.Native.Nat.{ℕ, suc, ◌≤◌, ◌<◌}
use native.Mathlib.Omega.{arith}
use lib.ListN.{length}
use lib.Seq.{ext_get_or}
use Rattle.answers.proofs.Bytes.{bytes_entry}
use Rattle.answers.specs.Bytes.{Bytes}
use Rattle.ring.proofs.Back.{Inverse}
use Rattle.turn.proofs.Turned.{mirrored_if, index_inside, index_turned_twice, length_turned_by, turned_by_entry}
use Rattle.turn.proofs.Turned.{length_turned, turned_entry}
use Rattle.turn.specs.Promises.{IndexTurnedTwice}
use Rattle.turn.specs.Turned.{turned, turned_index}
use Rattle.turn_laws.proofs.Frames.{held_turned, hold_as_it_was, move_as_its_byte, cost_alike}
use Rattle.turn_laws.specs.Promises.{mirrored_frame, turned_frames}
use Rattle.rules.specs.Rules.{Rule, Inside}
use Rattle.rules_claims.specs.Claims.{claims, claimants}
use Rattle.rules_frames.proofs.Marked.{length_rule_frames, frame_from, rule_frames_at}
use Rattle.rules_frames.specs.RuleFrames.{hold_of, rule_frames}
use Rattle.rules_rotation_laws.proofs.Alike.{twice_moved}
use Rattle.rules_turn_laws.specs.Promises.{turned_rule, turned_rules, BytesEach, RuleFramesTurned}
use Rattle.rules_turn_laws.specs.Promises.{TwiceTurned, RulesCostTurned}

-- of n entries turned the turned index is its own inverse
index_inverse : (way n : ℕ) → Inverse n (turned_index way n) (turned_index way n)
unfolding IndexTurnedTwice
index_inverse way n =
    record {
      inside = index_inside way n;
      inside_back = index_inside way n;
      undone = index_turned_twice way n;
      redone = index_turned_twice way n;
    }

-- byte c of the ring turned, and the byte at the turned index
module _ (way : ℕ) (t : List ℕ) (ht : Bytes t) (c : ℕ) (l : c < length t) where
  abbrev u : List ℕ
  u = turned way t

  abbrev there : ℕ
  there = turned_index way (length t) c

  -- a rule turned claims the one just where the rule claims the other
  claims_turned :
      (r : Rule) → Bytes r.pattern → r.hold_offset < length r.pattern →
      claims (turned_rule way r) u c ≡ claims r t there
  unfolding claims turned_rule
  claims_turned r hw inside = held_turned way r.hold_offset r.pattern t hw ht inside c l

  -- so as many rules claim both
  claimants_turned :
      (rs : List Rule) → BytesEach rs → Inside rs → claimants (turned_rules way rs) u c ≡ claimants rs t there
  unfolding claimants turned_rules BytesEach Inside
  claimants_turned [] hw inside = refl
  claimants_turned (r ∷ rs) hw inside =
      rw (claims_turned r hw.0 inside.0, claimants_turned rs hw.1 inside.1)

  -- a frame, mirrored if the way mirrors
  abbrev mirror : (frame : ℕ) → ℕ
  mirror g = mirrored_if mirrored_frame way g

  -- where a rule claims the byte its hold is as it was, and else the frame below it is mirrored
  hold_kept : (k g : ℕ) (z : Bool) → 1 ≤ k → cond z (hold_of k) (mirror g) ≡ mirror (cond z (hold_of k) g)
  hold_kept k g true h = sym (hold_as_it_was way (hold_of k) (omega arith))
  hold_kept k g false h = refl

  -- so what the rules turned mark over a frame mirrored is what the rules mark, mirrored
  frame_turned :
      (k : ℕ) (rs : List Rule) (g : ℕ) → 1 ≤ k → BytesEach rs → Inside rs →
      frame_from u c k (turned_rules way rs) (mirror g) ≡ mirror (frame_from t there k rs g)
  unfolding frame_from turned_rules BytesEach Inside
  frame_turned k [] g h hw inside = refl
  frame_turned k (r ∷ rs) g h hw inside =
      let claimed = claims r t there in
      let here : cond (claims (turned_rule way r) u c) (hold_of k) (mirror g) ≡ mirror (cond claimed (hold_of k) g) =
      rw (claims_turned r hw.0 inside.0) (hold_kept k g claimed h) in
      ap (frame_from u c (suc k) (turned_rules way rs)) here
      ∙ frame_turned (suc k) rs _ (omega arith) hw.1 inside.1

pub rule_frames_turned : RuleFramesTurned
unfolding RuleFramesTurned turned_frames
rule_frames_turned way rs t hw ht inside =
    let rs' = turned_rules way rs in
    let u = turned way t in
    let before = rule_frames rs t in
    let size = length_turned way t in
    let size' = length_rule_frames rs t in
    ext_get_or 0 _ _ (length_rule_frames rs' u ∙ size ∙ sym (length_turned_by mirrored_frame way before ∙ size'))
    (λ c l.
    let l' : c < length t = rw (length_rule_frames, length_turned) at l in
    let there = turned_index way (length t) c in
    rule_frames_at rs' u c (omega arith)
    ∙ rw (
      turned_entry way t c l',
      sym (move_as_its_byte way _ (bytes_entry t ht there)),
      frame_turned way t ht c l' 1 rs _ (omega arith) hw inside,
      turned_by_entry mirrored_frame way before c (omega arith),
      size',
      rule_frames_at rs t there (index_inside way (length t) c l'),
    ))

pub twice_turned : TwiceTurned
unfolding TwiceTurned
twice_turned way rs t hw ht inside =
    twice_moved rs (turned_rules way rs) t (turned way t) (length_turned way t) (index_inverse way (length t))
    (λ c l. claimants_turned way t ht c l rs hw inside)

pub rules_cost_turned : RulesCostTurned
unfolding RulesCostTurned RuleFramesTurned
rules_cost_turned way rs t hw ht inside =
    rw (rule_frames_turned way rs t hw ht inside) (cost_alike way t (rule_frames rs t) ht (length_rule_frames rs t))
