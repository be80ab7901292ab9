-- Two rules that claim one byte of a ring can meet (`met`): both show the ring's bytes around it.
-- By the laws of going around a ring.
use mathlib.Core.Bool.{true, false}
use mathlib.Core.List.{List}
use mathlib.Core.Logic.{⊎_elim}
use mathlib.Core.Path.{◌≡◌, sym, ◌∙◌}
use Prim.Native.Nat.{ℕ, ◌+◌, ◌-◌, ◌%◌, ◌≤◌, ◌<◌}
use native.Mathlib.Nat.{mod-add-mod}
use native.Mathlib.Omega.{arith}
use borrow.Author.Tests.{lt-ltb, le-ltb, le-leb, lt-leb, eq-eqb, ne_eqb}
use lib.Dec.{eqb}
use lib.ListN.{length}
use Rattle.tables.proofs.Cases.{le_or_lt, true_or_false, clash}
use Rattle.tables.proofs.Least.{all_each, each_all}
use Rattle.tables.specs.Sets.{byte}
use Rattle.steps.proofs.Text.{shown_at}
use Rattle.ring.proofs.Back.{back_on, on_back}
use Rattle.ring.specs.Ring.{back}
use Rattle.rules.specs.Rules.{Rule}
use Rattle.rules_claims.proofs.Claimed.{claims_shown}
use Rattle.rules_claims.specs.Claims.{claims}
use Rattle.rules_meet.specs.Meeting.{agree_at, can_meet}

module _ (n : ℕ) (some : 1 ≤ n) where
  -- q back, j on and q on is j on
  through : (c q j : ℕ) → (back n c q + j + q) % n ≡ (c % n + j) % n
  through c q j =
      let moved : back n c q + j + q ≡ back n c q + q + j = omega arith in
      rw moved (sym (mod-add-mod (back n c q + q) n j) ∙ rw (back_on n some c q))

  -- positions j and y of two patterns that lie on each other are one position of the ring
  same_place : (c q q' j y : ℕ) → y + q ≡ j + q' → (back n c q + j) % n ≡ (back n c q' + y) % n
  same_place c q q' j y e =
      let there : back n c q' + y + q ≡ back n c q' + j + q' = omega arith in
      let same : (back n c q + j + q) % n ≡ (back n c q' + y + q) % n =
      through c q j ∙ sym (rw there (through c q' j)) in
      sym (on_back n some (back n c q + j) q) ∙ rw same (on_back n some (back n c q' + y) q)

module _ (r s : Rule) where
  -- what agreeing at j says
  pub agree_before : (j : ℕ) → j + s.hold_offset < r.hold_offset → agree_at r s j ≡ true
  unfolding agree_at
  agree_before j l = rw (lt-ltb (j + s.hold_offset) r.hold_offset l)

  pub agree_after :
      (j : ℕ) → r.hold_offset ≤ j + s.hold_offset → length s.pattern ≤ j + s.hold_offset - r.hold_offset →
      agree_at r s j ≡ true
  unfolding agree_at
  agree_after j l u =
      rw (
        le-ltb (j + s.hold_offset) r.hold_offset l,
        le-leb (length s.pattern) (j + s.hold_offset - r.hold_offset) u,
      )

  pub agree_inside :
      (j : ℕ) → r.hold_offset ≤ j + s.hold_offset → j + s.hold_offset - r.hold_offset < length s.pattern →
      agree_at r s j ≡ eqb (byte r.pattern j) (byte s.pattern (j + s.hold_offset - r.hold_offset))
  unfolding agree_at
  agree_inside j l u =
      rw (
        le-ltb (j + s.hold_offset) r.hold_offset l,
        lt-leb (length s.pattern) (j + s.hold_offset - r.hold_offset) u,
      )

  -- patterns that differ in the byte that they hold cannot meet
  pub held_differ :
      r.hold_offset < length r.pattern → s.hold_offset < length s.pattern →
      (byte r.pattern r.hold_offset ≡ byte s.pattern s.hold_offset → ⊥) → can_meet r s ≡ false
  unfolding can_meet
  held_differ l u ne =
      let there : r.hold_offset + s.hold_offset - r.hold_offset ≡ s.hold_offset = omega arith in
      let differ : agree_at r s r.hold_offset ≡ false =
      agree_inside r.hold_offset (omega arith) (omega arith) ∙ rw there (ne_eqb _ _ ne) in
      ⊎_elim
      (λ y. absurd
      (clash _ (all_each (length r.pattern) 0 (agree_at r s) y r.hold_offset (omega arith) (omega arith)) differ))
      (λ y. y)
      (true_or_false (can_meet r s))

  pub met :
      (t : List ℕ) (c : ℕ) → c < length t →
      claims r t c ≡ true → claims s t c ≡ true → can_meet r s ≡ true
  unfolding can_meet
  met t c l here here' =
      each_all (length r.pattern) 0 (agree_at r s)
      (λ j low high.
      ⊎_elim
      (λ from.
      ⊎_elim
      (λ past. agree_after j from past)
      (λ inside.
      let y = j + s.hold_offset - r.hold_offset in
      let n = length t in
      let place : (back n c r.hold_offset + j) % n ≡ (back n c s.hold_offset + y) % n =
      same_place n (omega arith) c r.hold_offset s.hold_offset j y (omega arith) in
      agree_inside j from inside
      ∙ eq-eqb _ _
      (sym (claims_shown r t c (omega arith) l here j (omega arith))
      ∙ shown_at t (back n c r.hold_offset + j)
      ∙ rw place (sym (shown_at t (back n c s.hold_offset + y))
      ∙ claims_shown s t c (omega arith) l here' y inside)))
      (le_or_lt (length s.pattern) (j + s.hold_offset - r.hold_offset)))
      (λ less. agree_before j less)
      (le_or_lt r.hold_offset (j + s.hold_offset)))
