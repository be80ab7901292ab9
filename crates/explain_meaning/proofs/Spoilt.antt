-- Where the earliest comparison spoils a position: `first_spoilt` is that (`earliest_first`), and that is `first_spoilt` (`first_earliest`); of one list
-- of comparisons after another, and along a row. By induction on the comparisons, and on the row.
use mathlib.Core.Bool.{true, false, ◌&&◌, not, true≢false, and-eq-true_iff}
use mathlib.Core.List.{List, [], ◌∷◌, ◌++◌, map}
use mathlib.Core.Logic.{◌≢◌, inl, inr, ⊎_elim}
use mathlib.Core.Path.{◌≡◌, refl, sym, ◌∙◌, ap}
use Prim.Native.Nat.{ℕ, zero, suc, ◌+◌, ◌-◌, ◌≤◌, ◌<◌}
use native.Mathlib.Omega.{arith}
use borrow.Author.Tests.{le-leb, lt-ltb, leb-true, ltb-true, eqb-false, ne_eqb}
use lib.Dec.{ltb, leb, eqb}
use lib.ListN.{length, get_or, take}
use Rattle.tables.proofs.Cases.{true_or_false, eq_or_ne, clash}
use Rattle.tables.specs.Sets.{byte}
use Rattle.steps.specs.Promises.{ComparedAt, Spoilt}
use Rattle.steps.specs.Steps.{Comparison}
use Rattle.explain_meaning.specs.Explanation.{spoils, first_spoilt}
use Rattle.explain_meaning.specs.Promises.{Earliest}

module _ (f : ℕ → ℕ) (w : List ℕ) (b : ℕ) where
  -- what a comparison that spoils b shows
  record Spoiling (c : Comparison) (j : ℕ) : Type 0 where
    there : c.text_position ≡ b + j
    inside : j < length w
    differs : f (b + j) ≢ byte w j

  spoiling_spoils : (c : Comparison) (j : ℕ) → Spoiling c j → spoils f w b c ≡ true
  unfolding spoils
  spoiling_spoils c j h =
      let at = h.there in
      let back : b + j - b ≡ j = omega arith in
      rw (at, le-leb b (b + j) (omega arith), lt-ltb (b + j) (b + length w) (omega (arith, h.inside)), back, ne_eqb _ _ h.differs)

  spoils_spoiling : (c : Comparison) → spoils f w b c ≡ true → Spoiling c (c.text_position - b)
  unfolding spoils
  spoils_spoiling c e =
      let x = c.text_position in
      let (inside, differing) = (and-eq-true_iff (leb b x && ltb x (b + length w)) (not (eqb (f x) (byte w (x - b))))).0 e in
      let (low, high) = (and-eq-true_iff (leb b x) (ltb x (b + length w))).0 inside in
      let from = leb-true b x low in
      let there : x ≡ b + (x - b) = omega arith in
      record { there = there; inside = omega (arith, ltb-true x (b + length w) high); differs = rw (← there) (not_same differing) }
    where
      not_same : {p q : ℕ} → not (eqb p q) ≡ true → p ≢ q
      not_same {p} {q} e = ⊎_elim (λ s. absurd (true≢false (sym (sym (ap not s) ∙ e)))) (λ s. eqb-false p q s) (true_or_false (eqb p q))

  -- it spoils none: where it shows a position of the pattern laid at b, that agrees
  spoils_not : (c : Comparison) → spoils f w b c ≡ false → (i : ℕ) → i < length w → c.text_position ≡ b + i → f (b + i) ≡ byte w i
  spoils_not c e i l at =
      ⊎_elim (λ s. s) (λ d. absurd (clash _ (spoiling_spoils c i (record { there = at; inside = l; differs = d })) e)) (eq_or_ne (f (b + i)) (byte w i))

  -- one of the comparisons spoils b, and that is the first or a later one
  pub earliest_first : (all : List Comparison) → Spoilt f w all b → Earliest f w b (first_spoilt f w b all) all
  unfolding first_spoilt ComparedAt
  earliest_first [] h = absurd h.compared
  earliest_first (c ∷ all) h =
      ⊎_elim
      (λ e.
      let s = spoils_spoiling c e in
      rw e
      (record {
        before = [];
        spoiling = c;
        later = all;
        split = refl;
        there = s.there;
        inside = s.inside;
        differs = s.differs;
        unspoilt = λ i l none. absurd none;
      }))
      (λ e.
      let r = earliest_first all
      (record {
        j = h.j;
        inside = h.inside;
        compared = ⊎_elim (λ at. absurd (h.differs (spoils_not c e h.j h.inside at))) (λ later. later) h.compared;
        differs = h.differs;
      }) in
      rw e
      (record {
        before = c ∷ r.before;
        spoiling = r.spoiling;
        later = r.later;
        split = ap (λ (x : List Comparison). c ∷ x) r.split;
        there = r.there;
        inside = r.inside;
        differs = r.differs;
        unspoilt = λ i l made. ⊎_elim (spoils_not c e i l) (r.unspoilt i l) made;
      }))
      (true_or_false (spoils f w b c))

  first_after :
      (before : List Comparison) (c : Comparison) (later : List Comparison) (j : ℕ) → Spoiling c j →
      ((i : ℕ) → i < length w → ComparedAt before (b + i) → f (b + i) ≡ byte w i) →
      first_spoilt f w b (before ++ (c ∷ later)) ≡ j
  unfolding first_spoilt ComparedAt
  first_after [] c later j s agree = rw (spoiling_spoils c j s) (omega (arith, s.there))
  first_after (x ∷ before) c later j s agree =
      ⊎_elim
      (λ e. let q = spoils_spoiling x e in absurd (q.differs (agree _ q.inside (inl q.there))))
      (λ e. rw e (first_after before c later j s (λ i l made. agree i l (inr made))))
      (true_or_false (spoils f w b x))

  pub first_earliest : (all : List Comparison) (j : ℕ) → Earliest f w b j all → first_spoilt f w b all ≡ j
  first_earliest all j h =
      rw h.split
      (first_after h.before h.spoiling h.later j (record { there = h.there; inside = h.inside; differs = h.differs }) h.unspoilt)

  -- it is a position of the pattern, or m
  pub first_few : (made : List Comparison) → first_spoilt f w b made ≤ length w
  unfolding first_spoilt
  first_few [] = omega arith
  first_few (c ∷ made) =
      ⊎_elim (λ s. rw s (omega (arith, (spoils_spoiling c s).inside))) (λ s. rw s (first_few made)) (true_or_false (spoils f w b c))

  -- of one list of comparisons after another
  pub first_then : (made more : List Comparison) → first_spoilt f w b made ≡ length w → first_spoilt f w b (made ++ more) ≡ first_spoilt f w b more
  unfolding first_spoilt
  first_then [] more e = refl
  first_then (c ∷ made) more e =
      ⊎_elim
      (λ s. absurd (omega (arith, (spoils_spoiling c s).inside, rw s at e)))
      (λ s. rw s (first_then made more (rw s at e)))
      (true_or_false (spoils f w b c))

  pub first_kept : (made more : List Comparison) → first_spoilt f w b made ≢ length w → first_spoilt f w b (made ++ more) ≡ first_spoilt f w b made
  unfolding first_spoilt
  first_kept [] more d = absurd (d refl)
  first_kept (c ∷ made) more d =
      ⊎_elim (λ s. rw s) (λ s. rw s (first_kept made more (rw s at d))) (true_or_false (spoils f w b c))

  -- of the comparisons at c of so many positions of a row, of which those before index i show at b what the pattern has
  abbrev pub along : (c n : ℕ) → List ℕ → List Comparison
  along c n row = map (λ i. record { pattern_position = i; text_position = c + i }) (take n row)

  abbrev pub Unspoilt : (c : ℕ) (row : List ℕ) (i : ℕ) → Type 0
  Unspoilt c row i = (x : ℕ) → x < i → x < length row → let y = c + get_or row x 0 in b ≤ y → f y ≡ byte w (y - b)

  agrees_not : (i x : ℕ) → (b ≤ x → f x ≡ byte w (x - b)) → spoils f w b (record { pattern_position = i; text_position = x }) ≡ false
  agrees_not i x agree =
      ⊎_elim
      (λ s.
      let q = spoils_spoiling (record { pattern_position = i; text_position = x }) s in
      absurd (q.differs (ap f (sym q.there) ∙ agree (omega (arith, q.there)))))
      (λ s. s)
      (true_or_false (spoils f w b (record { pattern_position = i; text_position = x })))

  pub none_along : (c n : ℕ) (row : List ℕ) → Unspoilt c row n → first_spoilt f w b (along c n row) ≡ length w
  unfolding first_spoilt
  none_along c zero row agree = refl
  none_along c (suc n) [] agree = refl
  none_along c (suc n) (r ∷ row) agree =
      rw (agrees_not r (c + r) (agree 0 (omega arith) (omega arith)))
      (none_along c n row (λ x l u. agree (suc x) (omega arith) (omega arith)))

  pub first_along :
      (c n : ℕ) (row : List ℕ) (i : ℕ) → i < n → i < length row → let y = c + get_or row i 0 in
      b ≤ y → y < b + length w → f y ≢ byte w (y - b) → Unspoilt c row i → first_spoilt f w b (along c n row) ≡ y - b
  unfolding first_spoilt
  first_along c n [] i l u low high differs agree = absurd (omega arith)
  first_along c zero (r ∷ row) i l u low high differs agree = absurd (omega arith)
  first_along c (suc n) (r ∷ row) zero l u low high differs agree =
      let there : c + r ≡ b + (c + r - b) = omega arith in
      rw (spoiling_spoils (record { pattern_position = r; text_position = c + r }) (c + r - b)
      (record { there = there; inside = omega arith; differs = λ q. differs (ap f there ∙ q) }))
  first_along c (suc n) (r ∷ row) (suc i) l u low high differs agree =
      rw (agrees_not r (c + r) (agree 0 (omega arith) (omega arith)))
      (first_along c n row i (omega arith) (omega arith) low high differs (λ x a v. agree (suc x) (omega arith) (omega arith)))
