-- Two rules that can meet claim one byte of some ring (`CanMeetSomewhere`): both patterns are
-- laid with their hold offsets on it. By what agreeing says, wherever both cover.
use mathlib.Core.Bool.{true, cond}
use mathlib.Core.List.{List, [], ◌∷◌}
use mathlib.Core.Logic.{⊎_elim}
use mathlib.Core.Path.{◌≡◌, sym, ◌∙◌}
use Prim.Native.Nat.{ℕ, ◌+◌, ◌-◌, ◌≤◌, ◌<◌}
use native.Mathlib.Nat.{zero-add, mod-eq_of_lt}
use native.Mathlib.Omega.{arith}
use borrow.Author.Tests.{lt-ltb, le-ltb, eq-eqb, eqb-true}
use lib.Dec.{ltb}
use lib.ListN.{length}
use Rattle.answers.proofs.Bytes.{bytes_entry, each_byte}
use Rattle.answers.specs.Bytes.{Bytes}
use Rattle.tables.proofs.Cases.{le_or_lt}
use Rattle.tables.proofs.Least.{all_each, each_all}
use Rattle.tables.proofs.Stored.{values_length, values_entry}
use Rattle.tables.specs.Sets.{byte}
use Rattle.tables.specs.Tables.{values_from}
use Rattle.steps.proofs.Text.{shown_byte}
use Rattle.steps.specs.Text.{shown}
use Rattle.ring.proofs.Back.{on_back}
use Rattle.ring.specs.Ring.{back}
use Rattle.rules.specs.Rules.{Rule}
use Rattle.rules_claims.proofs.Claimed.{agrees, claims_is}
use Rattle.rules_claims.proofs.Twice.{is_twice}
use Rattle.rules_claims.specs.Claims.{claims, claimants}
use Rattle.rules_meet.proofs.Meeting.{agree_inside}
use Rattle.rules_meet.specs.Meeting.{agree_at, can_meet}
use Rattle.rules_meet.specs.Promises.{CanMeetSomewhere}

-- k back from i is i - k where k is at most i
back_less : (n i k : ℕ) → i < n → k ≤ i → back n i k ≡ i - k
back_less n i k l h =
    let there : i - k + k ≡ i = omega arith in
    let small : i - k < n = omega arith in
    rw (there, mod-eq_of_lt l, mod-eq_of_lt small) at (on_back n (omega arith) (i - k) k)

-- a rule whose pattern a ring shows around byte c claims it
shown_claims :
    (r : Rule) (t : List ℕ) (c : ℕ) → c < length t → r.hold_offset ≤ c → r.hold_offset < length r.pattern →
    c - r.hold_offset + length r.pattern ≤ length t →
    ((j : ℕ) → j < length r.pattern → byte t (c - r.hold_offset + j) ≡ byte r.pattern j) → claims r t c ≡ true
shown_claims r t c l room inside fits same =
    let w = r.pattern in
    let b = c - r.hold_offset in
    let at : back (length t) c r.hold_offset ≡ b = back_less (length t) c r.hold_offset l room in
    rw at at (claims_is r t c (omega arith) l)
    ∙ each_all (length w) 0 (agrees w t b)
    (λ j low high. eq-eqb (shown t (b + j)) (byte w j) (shown_byte t (b + j) (omega arith) ∙ same j (omega arith)))

module _ (r s : Rule) where
  -- position i of the ring: r's pattern is laid from the hold offset of s on, and where it does not
  -- cover, the pattern of s from the hold offset of r on
  laid : (i : ℕ) → ℕ
  laid i =
      let other = byte s.pattern (i - r.hold_offset) in
      cond (ltb i s.hold_offset) other
      (cond (ltb i (s.hold_offset + length r.pattern)) (byte r.pattern (i - s.hold_offset)) other)

  -- so r's pattern is shown
  laid_first : (j : ℕ) → j < length r.pattern → laid (s.hold_offset + j) ≡ byte r.pattern j
  unfolding laid
  laid_first j l =
      let there : s.hold_offset + j - s.hold_offset ≡ j = omega arith in
      rw (
        le-ltb (s.hold_offset + j) s.hold_offset (omega arith),
        lt-ltb (s.hold_offset + j) (s.hold_offset + length r.pattern) (omega arith),
        there,
      )

  -- and that of s, since they agree
  laid_second :
      can_meet r s ≡ true → (j : ℕ) → j < length s.pattern → laid (r.hold_offset + j) ≡ byte s.pattern j
  unfolding can_meet laid
  laid_second e j l =
      let q = r.hold_offset in
      let q' = s.hold_offset in
      let m = length r.pattern in
      let i = q + j in
      let there : i - q ≡ j = omega arith in
      ⊎_elim
      (λ (from : q' ≤ i).
      ⊎_elim
      (λ (past : q' + m ≤ i). rw (le-ltb i q' from, le-ltb i (q' + m) past, there))
      (λ (within : i < q' + m).
      let y = i - q' in
      let over : y + q' - q ≡ j = omega arith in
      let agree = all_each m 0 (agree_at r s) e y (omega arith) (omega arith) in
      rw (le-ltb i q' from, lt-ltb i (q' + m) within)
      (eqb-true _ _ (rw over at (sym (agree_inside r s y (omega arith) (omega arith)) ∙ agree))))
      (le_or_lt (q' + m) i))
      (λ (before : i < q'). rw (lt-ltb i q' before, there))
      (le_or_lt q' i)

  -- the ring is long enough for both
  abbrev size : ℕ
  size = r.hold_offset + s.hold_offset + length r.pattern + length s.pattern

  abbrev laid_ring : List ℕ
  laid_ring = values_from size 0 laid

  ring_byte : (i : ℕ) → i < size → byte laid_ring i ≡ laid i
  ring_byte i l = rw zero-add at (values_entry size 0 i laid l)

  -- its bytes are the patterns', or 0
  laid_below : Bytes r.pattern → Bytes s.pattern → (i : ℕ) → laid i < 256
  unfolding laid
  laid_below h k i =
      let q' = s.hold_offset in
      let end = q' + length r.pattern in
      let other = bytes_entry s.pattern k (i - r.hold_offset) in
      ⊎_elim
      (λ (from : q' ≤ i).
      ⊎_elim
      (λ (past : end ≤ i). rw (le-ltb i q' from, le-ltb i end past) other)
      (λ (within : i < end). rw (le-ltb i q' from, lt-ltb i end within) (bytes_entry r.pattern h (i - q')))
      (le_or_lt end i))
      (λ (before : i < q'). rw (lt-ltb i q' before) other)
      (le_or_lt q' i)

pub can_meet_somewhere : CanMeetSomewhere
unfolding CanMeetSomewhere claimants
can_meet_somewhere r s inside inside' e =
    let t = laid_ring r s in
    let n = size r s in
    let c = r.hold_offset + s.hold_offset in
    let long : length t ≡ n = values_length n 0 (laid r s) in
    let within : c < length t = rw long (omega arith) in
    let first : c - r.hold_offset ≡ s.hold_offset = omega arith in
    let second : c - s.hold_offset ≡ r.hold_offset = omega arith in
    let here : claims r t c ≡ true =
    shown_claims r t c within (omega arith) inside (rw (first, long) (omega arith))
    (λ j l. rw first (ring_byte r s (s.hold_offset + j) (omega arith) ∙ laid_first r s j l)) in
    let here' : claims s t c ≡ true =
    shown_claims s t c within (omega arith) inside' (rw (second, long) (omega arith))
    (λ j l. rw second (ring_byte r s (r.hold_offset + j) (omega arith) ∙ laid_second r s e j l)) in (
      t,
      record {
        twice = is_twice (r ∷ s ∷ []) t c within (rw (here, here') (omega arith));
        bytes = λ h k. each_byte t (λ i l. rw (ring_byte r s i (rw long at l)) (laid_below r s h k i));
      },
    )
