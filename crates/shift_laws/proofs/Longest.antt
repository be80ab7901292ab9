-- Every shift is the longest its facts allow (`longest_shifts`, `prepared_longest`, `order_facts`).
-- A shorter one is in a fact's set; the pattern laid at k, behind what the facts show, reaches k.
use mathlib.Core.Bool.{true, false, cond}
use mathlib.Core.List.{List}
use mathlib.Core.Logic.{◌≢◌, ◌⊎◌, inl, inr, ⊎_elim}
use mathlib.Core.Path.{◌≡◌, refl, sym, ◌∙◌}
use Prim.Native.Nat.{ℕ, zero, suc, ◌+◌, ◌-◌, ◌≤◌, ◌<◌}
use native.Mathlib.Nat.{eq-or-lt_of_le}
use native.Mathlib.Omega.{arith}
use borrow.Author.Tests.{lt-ltb, le-ltb, eq-eqb, ne_eqb}
use lib.Dec.{ltb, eqb}
use lib.ListN.{length, get_or}
use Rattle.answers.proofs.Answered.{done_only}
use Rattle.answers.proofs.Bytes.{bytes_entry, each_byte}
use Rattle.answers.proofs.Fronts.{in_front_entry}
use Rattle.answers.specs.Answers.{if_done}
use Rattle.answers.specs.Bytes.{Bytes}
use Rattle.prepare.proofs.Prepared.{prepare_fit}
use Rattle.tables.proofs.Cases.{eq_or_ne, true_or_false, le_or_lt}
use Rattle.tables.proofs.FirstShift.{Δ1_facts}
use Rattle.tables.proofs.Groups.{order_inside}
use Rattle.tables.proofs.LaterShift.{entry_at, Δ2_facts}
use Rattle.tables.proofs.Order.{order_length, order_distinct}
use Rattle.tables.proofs.RepeatShift.{Δ3_facts, stored_Δ3_length, stored_Δ3_defined, Δ3_defined_bounds}
use Rattle.tables.proofs.Stored.{values_length, values_entry, stored_Δ2_length, stored_Δ2_entry, stored_Δ1_inside, stored_Δ1_entry}
use Rattle.tables.specs.Buffers.{tables_left}
use Rattle.tables.specs.Facts.{InPos, InNeg, OutNeg, Known, Refuted, by_agreed, by_differing, LaterShift}
use Rattle.tables.specs.Prepare.{prepare_done}
use Rattle.tables.specs.Sets.{byte}
use Rattle.tables.specs.Tables.{period, order, h_at, values_from, Δ1, stored_Δ1, Δ2, stored_Δ2, Δ3, stored_Δ3}
use Rattle.steps.proofs.Occurrences.{occurs_agrees, agrees_occurs}
use Rattle.steps.proofs.Steps.{Ends, agreeing_ends}
use Rattle.steps.proofs.Text.{shown_byte, span_covers}
use Rattle.steps.specs.Occurrences.{occurs}
use Rattle.steps.specs.Steps.{agreeing}
use Rattle.steps.specs.Text.{shown, span}
use Rattle.shift_laws.specs.Longest.{FirstFacts, LaterFacts, RepeatFacts, Longest, LongestShifts, PreparedLongest, OrderFacts}

-- an occurrence at j shows w(g - j) at g
module _ (w : List ℕ) (f : ℕ → ℕ) (N j g : ℕ) (l : g < length w) where
  moved : j ≤ g → occurs f N w j ≡ true → byte w (g - j) ≡ f g
  moved u e =
      let there : j + (g - j) ≡ g = omega (arith, u) in
      rw there at (occurs_agrees f N w j e (g - j) (omega (arith, l)))

  -- so there is none where g shows c and j is in Neg(c, g), nor where g shows another byte and j is in Pos(c, g)
  none_by_shown : {c : ℕ} → f g ≡ c → InNeg w c g j → occurs f N w j ≡ false
  none_by_shown same (u, differs) = ⊎_elim (λ e. absurd (differs (moved u e ∙ same))) (λ e. e) (true_or_false (occurs f N w j))

  none_by_differing : {c : ℕ} → f g ≢ c → InPos w c g j → occurs f N w j ≡ false
  none_by_differing differs (u, same) = ⊎_elim (λ e. absurd (differs (sym (moved u e) ∙ same))) (λ e. e) (true_or_false (occurs f N w j))

-- some text of bytes with these facts has an occurrence at k
abbrev Reached : (w : List ℕ) (Facts : (f : ℕ → ℕ) → Type 0) (k : ℕ) → Type 0
Reached w Facts k = (t : List ℕ) × (length t ≡ k + length w) × Bytes t × Facts (shown t) × (occurs (shown t) (span w t) w k ≡ true)

-- the pattern laid at k, with other bytes before it
module _ (w : List ℕ) (k : ℕ) (base : ℕ → ℕ) where
  laid : (x : ℕ) → ℕ
  laid x = cond (ltb x k) (base x) (byte w (x - k))

  abbrev text : List ℕ
  text = values_from (k + length w) 0 laid

  text_length : length text ≡ k + length w
  text_length = values_length (k + length w) 0 laid

  text_entry : (x : ℕ) → x < k + length w → byte text x ≡ laid x
  text_entry x l = let from : 0 + x ≡ x = omega arith in rw from at (values_entry (k + length w) 0 x laid l)

  shown_laid : (x : ℕ) → x < k + length w → shown text x ≡ laid x
  shown_laid x l = shown_byte text x (omega (arith, text_length)) ∙ text_entry x l

  shown_base : (x : ℕ) → x < k → shown text x ≡ base x
  unfolding laid
  shown_base x l = shown_laid x (omega arith) ∙ rw (lt-ltb x k l)

  shown_pattern : (x : ℕ) → k ≤ x → x < k + length w → shown text x ≡ byte w (x - k)
  unfolding laid
  shown_pattern x l u = shown_laid x u ∙ rw (le-ltb x k l)

  occurs_at : 1 ≤ length w → occurs (shown text) (span w text) w k ≡ true
  occurs_at some =
      agrees_occurs (shown text) (span w text) w k (omega (arith, span_covers w text some, text_length)) λ g l.
      let back : k + g - k ≡ g = omega arith in
      sym (rw back at (shown_pattern (k + g) (omega arith) (omega arith)))

  text_bytes : Bytes w → ((x : ℕ) → base x < 256) → Bytes text
  unfolding laid
  text_bytes bytes small = each_byte text (λ x l. rw (text_entry x (omega (arith, text_length))) (each x))
    where
      each : (x : ℕ) → laid x < 256
      each x = ⊎_elim (λ u. rw (le-ltb x k u) (bytes_entry w bytes (x - k))) (λ u. rw (lt-ltb x k u) (small x)) (le_or_lt k x)

  -- a position shows what its fact says: before k by the bytes there, from k on as k is outside the fact's set
  shows : {c g : ℕ} → g < length w → base g ≡ c → OutNeg w c g k → shown text g ≡ c
  shows {c} {g} l front keeps =
      ⊎_elim (λ u. shown_pattern g u (omega arith) ∙ keeps u) (λ u. shown_base g u ∙ front) (le_or_lt k g)

  lacks : {c g : ℕ} → g < length w → base g ≢ c → (InPos w c g k → ⊥) → shown text g ≢ c
  lacks {c} {g} l front moves e =
      ⊎_elim
      (λ u. moves (u, sym (shown_pattern g u (omega arith)) ∙ e))
      (λ u. front (sym (shown_base g u) ∙ e))
      (le_or_lt k g)

  reached : (Facts : (f : ℕ → ℕ) → Type 0) → 1 ≤ length w → Bytes w → ((x : ℕ) → base x < 256) → Facts (shown text) → Reached w Facts k
  reached Facts some bytes small facts = (text, text_length, text_bytes bytes small, facts, occurs_at some)

module _ (w : List ℕ) (bytes : Bytes w) where
  -- the pattern's bytes with c at position d
  with_byte : (d c x : ℕ) → ℕ
  with_byte d c x = cond (eqb x d) c (byte w x)

  with_there : (d c : ℕ) → with_byte d c d ≡ c
  unfolding with_byte
  with_there d c = rw (eq-eqb d d refl)

  with_elsewhere : (d c x : ℕ) → x ≢ d → with_byte d c x ≡ byte w x
  unfolding with_byte
  with_elsewhere d c x n = rw (ne_eqb x d n)

  with_small : (d c : ℕ) → c < 256 → (x : ℕ) → with_byte d c x < 256
  unfolding with_byte
  with_small d c l x =
      ⊎_elim (λ e. rw (eq-eqb x d e) l) (λ n. rw (ne_eqb x d n) (bytes_entry w bytes x)) (eq_or_ne x d)

  -- a byte other than this one
  other : (c : ℕ) → ℕ
  other c = cond (eqb c 0) 1 0

  other_small : (c : ℕ) → other c < 256
  unfolding other
  other_small c = ⊎_elim (λ e. rw (eq-eqb c 0 e) (omega arith)) (λ n. rw (ne_eqb c 0 n) (omega arith)) (eq_or_ne c 0)

  other_differs : (c : ℕ) → other c ≢ c
  unfolding other
  other_differs c = ⊎_elim (λ e. rw (eq-eqb c 0 e) (omega arith)) (λ n. rw (ne_eqb c 0 n) (λ z. n (sym z))) (eq_or_ne c 0)

  -- the pattern's bytes with another one at d
  abbrev altered : (d x : ℕ) → ℕ
  altered d = with_byte d (other (byte w d))

  altered_small : (d x : ℕ) → altered d x < 256
  altered_small d = with_small d (other (byte w d)) (other_small (byte w d))

  altered_there : (d : ℕ) → altered d d ≢ byte w d
  altered_there d e = other_differs (byte w d) (sym (with_there d _) ∙ e)

  first_longest : (c s : ℕ) → c < 256 → 1 ≤ s → s ≤ length w → Longest w (FirstFacts w c s) (Δ1 w c s)
  first_longest c s small l u =
      let m = length w in
      let k = Δ1 w c s in
      let r = Δ1_facts w c s l u in
      let base = with_byte (m - 1) c in
      record {
        positive = r.positive;
        none_before = λ f N j facts a b.
            ⊎_elim
            (λ (g, e, n).
            let at : m - s - 1 ≡ g = omega arith in
            none_by_shown w f N j g (omega arith) (rw at at (facts.last (omega arith))) n)
            (λ (g, e, n).
            let at : m - 1 ≡ g = omega arith in
            none_by_shown w f N j g (omega arith) (rw at at facts.seen) n)
            (r.least j a b);
        reached =
            reached w k base (FirstFacts w c s) (omega arith) bytes (with_small (m - 1) c small)
            (record {
              seen = shows w k base (omega arith) (with_there (m - 1) c) (r.outside_seen (m - 1) (omega arith));
              last = λ q.
                  shows w k base (omega arith) (with_elsewhere (m - 1) c (m - s - 1) (omega arith)) (r.outside_last (m - s - 1) (omega arith));
            });
      }

  module _ (some : 1 ≤ length w) where
    below : (x : ℕ) → x < length w → get_or (order w) x 0 < length w
    below = order_inside w some

    -- the byte at d is another one: d is the entry at x where it differed, and no entry before it
    later_reached :
        (x d : ℕ) → x ≤ length w → (x < length w → d ≡ get_or (order w) x 0) → ((y : ℕ) → y < x → get_or (order w) y 0 ≢ d) →
        Reached w (LaterFacts w (suc x)) (Δ2 w (suc x))
    later_reached x d u there others =
        let k = Δ2 w (suc x) in
        let r = Δ2_facts w some x u in
        reached w k (altered d) (LaterFacts w (suc x)) (omega arith) bytes (altered_small d)
        (record {
          agreed = λ j a b.
              shows w k (altered d) (below (j - 1) (omega arith)) (with_elsewhere d _ (h_at w j) (others (j - 1) (omega arith)))
              (r.outside_agreed (j - 1) (omega arith));
          differing = λ v.
              rw (entry_at w x, ← there v)
              (lacks w k (altered d) (omega (arith, there v, below x v)) (altered_there d) (rw (← there v) at (r.outside_differing v)));
        })

    later_longest : (x : ℕ) → x ≤ length w → Longest w (LaterFacts w (suc x)) (Δ2 w (suc x))
    later_longest x u =
        record { positive = r.positive; none_before = none_before; reached = go (eq-or-lt_of_le u) }
      where
        r : LaterShift w x (Δ2 w (suc x))
        r = Δ2_facts w some x u

        none_before : (f : ℕ → ℕ) (N j : ℕ) → LaterFacts w (suc x) f → 1 ≤ j → j < Δ2 w (suc x) → occurs f N w j ≡ false
        none_before f N j facts a b = excluded (r.least j a b)
          where
            excluded : Refuted w x j → occurs f N w j ≡ false
            excluded (by_agreed y l n) =
                none_by_shown w f N j _ (below y (omega arith)) (rw (entry_at w y) at (facts.agreed (suc y) (omega arith) (omega arith))) n
            excluded (by_differing l n) = none_by_differing w f N j _ (below x l) (rw (entry_at w x) at (facts.differing l)) n

        go : (x ≡ length w) ⊎ (x < length w) → Reached w (LaterFacts w (suc x)) (Δ2 w (suc x))
        go (inl e) = later_reached x (length w) u (λ l. absurd (omega arith)) (λ y l. omega (arith, below y (omega arith)))
        go (inr l) = later_reached x (get_or (order w) x 0) u (λ _. refl) (λ y b. order_distinct w some y x b l)

  repeat_longest : (i : ℕ) → length w - period w ≤ i → i < length w → Longest w (RepeatFacts w i) (Δ3 w i)
  repeat_longest i l u =
      let k = Δ3 w i in
      let r = Δ3_facts w i u in
      let base = altered i in
      let agrees : (g : ℕ) → Known w i g → shown (text w k base) g ≡ byte w g = λ g known.
      shows w k base known.0
      (with_elsewhere i (other (byte w i)) g (⊎_elim (λ q. omega arith) (λ q. omega arith) known.1))
      (r.outside_known g known) in
      record {
        positive = r.positive;
        none_before = λ f N j facts a b.
            ⊎_elim
            (λ n. none_by_differing w f N j i u facts.differing n)
            (λ (g, (v, known), n).
            none_by_shown w f N j g v (⊎_elim (λ q. facts.above g q v) (λ q. facts.below g (omega arith)) known) n)
            (r.least j a b);
        reached =
            reached w k base (RepeatFacts w i) (omega arith) bytes (altered_small i)
            (record {
              differing = lacks w k base u (altered_there i) r.outside_differing;
              above = λ j q v. agrees j (v, inl q);
              below = λ j q. agrees j (omega arith, inr (omega arith));
            });
      }

pub longest_shifts : LongestShifts
unfolding LongestShifts
longest_shifts w bytes some = record { first = first_longest w bytes; later = later; repeat = repeat_longest w bytes }
  where
    later : (i : ℕ) → 1 ≤ i → i ≤ length w + 1 → Longest w (LaterFacts w i) (Δ2 w i)
    later zero l u = absurd (omega arith)
    later (suc x) l u = later_longest w bytes some x (omega arith)

-- the alignment's comparisons that agree, and the one that differs, are the facts; and no other number of them fits the same facts
pub order_facts : OrderFacts
unfolding OrderFacts
order_facts f w b zero some l u = absurd (omega arith)
order_facts f w b (suc x) some l u = (λ e. rw (sym (back e)) at facts_shown, λ facts. omega (arith, counted facts))
  where
    n : ℕ
    n = agreeing f w b (order w)

    ends : Ends f w b (order w) n
    ends = agreeing_ends f w b (order w)

    back : n + 1 ≡ suc x → x ≡ n
    back e = omega arith

    facts_shown : LaterFacts w (suc n) (λ y. f (b + y))
    facts_shown = record {
      agreed = λ j a c. sym (ends.agree (j - 1) (omega arith));
      differing = λ c. rw (entry_at w n) (λ e. ends.differ (omega (arith, order_length w some)) (sym e));
    }

    counted : LaterFacts w (suc x) (λ y. f (b + y)) → n ≡ x
    counted facts =
        let not_fewer : ¬ (n < x) = λ c.
        ends.differ (omega (arith, order_length w some)) (sym (rw (entry_at w n) at (facts.agreed (suc n) (omega arith) (omega arith)))) in
        let not_more : ¬ (x < n) = λ c.
        rw (entry_at w x) at (facts.differing (omega (arith, ends.within, order_length w some))) (sym (ends.agree x c)) in
        omega arith

-- every shift that `prepare` leaves: an entry of a stored table, which its buffer begins with
pub prepared_longest : PreparedLongest
unfolding PreparedLongest LongestShifts tables_left if_done
prepared_longest w lent left r bytes outcome status =
    let done = done_only _ (prepare_done w) outcome.answer status in
    let fit = prepare_fit {w = w} {lent = lent} done in
    let longest = longest_shifts w bytes fit.taken.some in
    rw (outcome.tables, done)
    (record {
      first = λ c s small l u.
          rw (in_front_entry (stored_Δ1 w) lent.delta1 _ 0 (stored_Δ1_inside w c s small l u), stored_Δ1_entry w c s small l u)
          (longest.first c s small l u);
      later = λ i l u.
          let back : suc (i - 1) ≡ i = omega arith in
          let inside : i - 1 < length (stored_Δ2 w) = omega (arith, stored_Δ2_length w) in
          rw (in_front_entry (stored_Δ2 w) lent.delta2 _ 0 inside, stored_Δ2_entry w (i - 1) (omega arith) (omega arith), back)
          (longest.later i (omega arith) u);
      repeat = λ i e.
          let (repeats, low, high) = Δ3_defined_bounds w i e in
          let inside : i < length (stored_Δ3 w) = omega (arith, stored_Δ3_length w) in
          rw (in_front_entry (stored_Δ3 w) lent.delta3 i 0 inside, stored_Δ3_defined w i (omega arith) e)
          (longest.repeat i (omega arith) (omega arith));
    })
