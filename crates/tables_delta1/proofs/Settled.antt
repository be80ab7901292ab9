-- The entries of a row of Δ1 while its positions lower it, from the last one down: each is right, or m if its shift leads further down.
-- A shift to a position with the byte is at least Δ1 if the last shift allows it, and Δ1 leads to such a position or past the front.
use mathlib.Core.Bool.{Bool, true, false}
use mathlib.Core.List.{List}
use mathlib.Core.Logic.{◌≢◌, ◌⊎◌, inl, inr, ⊎_elim}
use mathlib.Core.Path.{◌≡◌, refl, sym, ◌∙◌}
use Prim.Native.Nat.{ℕ, ◌+◌, ◌*◌, ◌-◌, ◌≤◌, ◌<◌}
use native.Mathlib.Numerals.{add-one}
use native.Mathlib.Omega.{arith}
use borrow.Author.Tests.{eq-eqb, ne_eqb, eqb-true, eqb-false, lt-ltb, le-ltb}
use borrow.Rule.Slice.PartMut.{mid_of}
use lib.ListN.{length, get_or}
use Rattle.tables.proofs.Cases.{le_or_lt, clash}
use Rattle.tables.proofs.FirstShift.{Δ1_facts}
use Rattle.tables_delta1.proofs.Links.{last_within, last_above, last_byte}
use Rattle.tables_delta1.proofs.Parts.{part_entry}
use Rattle.tables.specs.Facts.{InNeg, OutNeg}
use Rattle.tables_delta1.specs.Rows.{lowered_if, Reversed, allows, Lowered, last_below, last_of, RightRow}
use Rattle.tables.specs.Sets.{byte}
use Rattle.tables.specs.Tables.{Δ1}

-- an entry once the positions from `at` on have lowered the row
abbrev pub Settled : (w : List ℕ) (c at s entry : ℕ) → Type 0
Settled w c at s e = (e ≡ Δ1 w c s) ⊎ ((e ≡ length w) × (length w ≤ Δ1 w c s + at))

-- whether the last shift s allows a shift of k, as the reversed pattern v tells
abbrev shift_allowed : (v : List ℕ) (k s : ℕ) → Bool
shift_allowed v k s = allows (get_or v (s + k) 0) (get_or v s 0)

-- what that tells of the set
module _ (w v : List ℕ) (k s : ℕ) (r : Reversed w v) where
  allowed : shift_allowed v k s ≡ true → (g : ℕ) → g + s + 1 ≡ length w → OutNeg w (byte w g) g k
  allowed e g q l =
      let is_byte_lem = r.below (s + k) (omega arith) in
      let same = eqb-true (get_or v (s + k) 0) (get_or v s 0) (rw (ne_eqb (get_or v (s + k) 0) 256 (omega arith)) at e) in
      sym (r.bytes (s + k) (g - k) (omega arith)) ∙ same ∙ r.bytes s g (omega arith)

  refused : s + k < length v → shift_allowed v k s ≡ false → (g : ℕ) × (g + s + 1 ≡ length w) × InNeg w (byte w g) g k
  refused b e =
      let past : length w ≤ s + k → s + k < length w = λ h.
      absurd (clash true refl (rw (eq-eqb (get_or v (s + k) 0) 256 (r.past (s + k) h b)) at e)) in
      let near : s + k < length w = ⊎_elim past (λ h. h) (le_or_lt (length w) (s + k)) in
      let is_byte_lem = r.below (s + k) near in
      let different = eqb-false (get_or v (s + k) 0) (get_or v s 0) (rw (ne_eqb (get_or v (s + k) 0) 256 (omega arith)) at e) in
      let g = length w - s - 1 in (
        g,
        omega arith,
        (omega arith, λ q. different (r.bytes (s + k) (g - k) (omega arith) ∙ q ∙ sym (r.bytes s g (omega arith)))),
      )

module _ (w : List ℕ) (c s : ℕ) (l : 1 ≤ s) (u : s ≤ length w) where
  -- where Δ1 is more than the shift to position j, it leads to a position below j that has the byte, or past the front
  beyond : (k j : ℕ) → k + j + 1 ≡ length w → k < Δ1 w c s → length w ≤ Δ1 w c s + last_below w c j
  beyond k j e h =
      let g = length w - 1 in
      let seen : Δ1 w c s < length w → byte w (g - Δ1 w c s) ≡ c =
      λ q. (Δ1_facts w c s l u).outside_seen g (omega arith) (omega arith) in
      ⊎_elim (λ q. omega arith) (λ q. omega (arith, last_above w c j _ (omega arith) (seen q))) (le_or_lt (length w) (Δ1 w c s))

  pub to_last : length w ≤ Δ1 w c s + last_of w c
  to_last = beyond 0 (length w - 1) (omega arith) (Δ1_facts w c s l u).positive

  -- a shift that is outside both sets is at least Δ1
  pub at_least :
      (k : ℕ) → 1 ≤ k → ((g : ℕ) → g + s + 1 ≡ length w → OutNeg w (byte w g) g k) →
      ((g : ℕ) → g + 1 ≡ length w → OutNeg w c g k) → Δ1 w c s ≤ k
  at_least k h p q =
      let smaller : ¬ (k < Δ1 w c s) = λ b.
      ⊎_elim (λ (g, e, i). i.1 (p g e i.0)) (λ (g, e, i). i.1 (q g e i.0)) ((Δ1_facts w c s l u).least k h b) in
      omega arith

  -- position j, which has the byte, lowers the entry to its shift
  settle :
      (v : List ℕ) (k j e : ℕ) → Reversed w v → s + k < length v → 1 ≤ k → k + j + 1 ≡ length w → byte w j ≡ c →
      Settled w c (j + 1) s e → Settled w c (last_below w c j) s (lowered_if (shift_allowed v k s) k e)
  settle v k j e r d h q b t = go (shift_allowed v k s) refl
    where
      go : (z : Bool) → shift_allowed v k s ≡ z → Settled w c (last_below w c j) s (lowered_if z k e)
      go true a =
          let seen : (g : ℕ) → g + 1 ≡ length w → OutNeg w c g k = λ g i n. let place : g - k ≡ j = omega arith in rw place b in
          let most : Δ1 w c s ≤ k = at_least k h (allowed w v k s r a) seen in
          inl (⊎_elim (λ i. rw (le-ltb k e (omega arith)) i) (λ i. rw (lt-ltb k e (omega arith)) (omega arith)) t)
      -- k is in the first set, and Δ1 is not
      go false a =
          let (g, n, (inside, different)) = refused w v k s r d a in
          let other : Δ1 w c s ≢ k = λ i. different (rw i at ((Δ1_facts w c s l u).outside_last g n) inside) in
          ⊎_elim inl (λ i. inr (i.0, beyond k j q (omega arith))) t

-- a row once the positions from `at` on have lowered it: the next one down that has the byte is at - 1
pub record RowSettled (w : List ℕ) (c at : ℕ) (row : List ℕ) : Type 0 where
  pub within : at < length w
  pub entries : length row ≡ length w
  pub next_has : (j : ℕ) → at ≡ j + 1 → byte w j ≡ c
  pub settled : (x : ℕ) → x < length w → Settled w c at (x + 1) (get_or row x 0)

-- at the last position that has the byte, each entry is right or m
pub row_first :
    {w row : List ℕ} {c at : ℕ} → at < length w → length row ≡ length w → last_of w c ≡ at →
    ((x : ℕ) → x < length w → (get_or row x 0 ≡ Δ1 w c (x + 1)) ⊎ (get_or row x 0 ≡ length w)) → RowSettled w c at row
row_first {w} {row} {c} {at} h n e begun =
    record {
      within = h;
      entries = n;
      next_has = λ j q. last_byte w c (length w - 1) j (e ∙ q ∙ add-one j);
      settled = λ x b. ⊎_elim inl (λ q. inr (q, rw e at (to_last w c (x + 1) (omega arith) (omega arith)))) (begun x b);
    }

-- position at - 1 lowers the row to its shift, and the next one down is its link
pub row_next :
    (v : List ℕ) {w row row' : List ℕ} {c at : ℕ} → RowSettled w c at row → 0 < at → Reversed w v → 2 * length w ≤ length v →
    Lowered (mid_of 1 (length w) v) (mid_of (length w - at + 1) (length w) v) (length w - at) row row' →
    RowSettled w c (last_below w c (at - 1)) row'
row_next v {w} {row} {row'} {c} {at} p h r room q =
    let j = at - 1 in
    let k = length w - at in
    let one_up : at ≡ j + 1 = omega arith in
    record {
      within = omega (arith, last_within w c j);
      entries = q.same_length ∙ p.entries;
      next_has = λ i n. last_byte w c j i (n ∙ add-one i);
      settled = λ x b.
          let before = rw one_up at (p.settled x b) in
          let one_on : 1 + x ≡ x + 1 = omega arith in
          let shift_on : k + 1 + x ≡ x + 1 + k = omega arith in
          rw (
            q.changed x (omega arith),
            part_entry 1 (length w) v (omega arith) x b,
            part_entry (k + 1) (length w) v (omega arith) x b,
            one_on,
            shift_on,
          )
          (settle w c (x + 1) (omega arith) (omega arith) v k j (get_or row x 0) r (omega arith) (omega arith) (omega arith)
          (p.next_has j one_up) before);
    }

-- with no position left, the row is right
pub row_right : {w row : List ℕ} {c : ℕ} → RowSettled w c 0 row → RightRow w c row
row_right {w} {row} {c} p x b =
    let d = Δ1_facts w c (x + 1) (omega arith) (omega arith) in
    ⊎_elim (λ e. e) (λ i. omega arith) (p.settled x b)
