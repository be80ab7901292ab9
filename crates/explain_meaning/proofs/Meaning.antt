-- Each position has just one true explanation, the one defined (`OneExplanation`): the first
-- alignment that reaches it tells. The comparisons decide it (`ComparisonsExplain`).
use mathlib.Core.Bool.{Bool, true, false, true≢false}
use mathlib.Core.List.{List, [], ◌∷◌, ◌++◌}
use mathlib.Core.Logic.{⊎_elim}
use mathlib.Core.Path.{◌≡◌, refl, sym, ◌∙◌, ap}
use Prim.Native.Nat.{ℕ, ◌+◌, ◌≤◌, ◌<◌}
use native.Mathlib.Nat.{eq-or-lt_of_le}
use native.Mathlib.Omega.{arith}
use borrow.Author.Tests.{eq-eqb, ne_eqb, eqb-false, lt-ltb, le-ltb}
use lib.ListN.{length, get_or}
use Rattle.tables.proofs.Cases.{true_or_false}
use Rattle.steps.proofs.Compared.{compared_before}
use Rattle.steps.proofs.Decide.{comparisons_decide}
use Rattle.steps.proofs.Occurrences.{occurs_agrees}
use Rattle.steps.proofs.Passed.{passed_spoilt}
use Rattle.steps.proofs.Rows.{row_below}
use Rattle.steps.proofs.Runs.{Follow, comparisons_split, follow_from, follows, reaching}
use Rattle.steps.proofs.Steps.{step_row}
use Rattle.steps.specs.Occurrences.{occurs}
use Rattle.steps.specs.Promises.{PassedSpoilt, Spoilt, SameAt, ComparisonsDecide}
use Rattle.steps.specs.Steps.{Comparison, Alignment, is_occurrence, alignments, comparisons_of}
use Rattle.explain_meaning.proofs.Made.{stepped, occurring, ends, shifts_so, shifts_only}
use Rattle.explain_meaning.proofs.Spoilt.{earliest_first, first_earliest}
use Rattle.explain_meaning.specs.Explanation.{kind_of, spoils, first_spoilt, where_laid, explained_by, explanation}
use Rattle.explain_meaning.specs.Promises.{Made, TriedAt, PassedAt, TrueOf, OneExplanation, ComparisonsExplain}
use Rattle.explain_answers.specs.declared.ShiftKind.{ShiftKind}
use Rattle.explain_answers.specs.declared.Explanation.{Explanation}
use Rattle.explain_answers.specs.declared.Explanation.TheVariants.{Listed, Tried, PassedOver}

-- an alignment before c whose shift does not go past it is passed over, one at c lays the pattern there, and one whose shift goes past it passes it
module _ (c j : ℕ) (a : Alignment) (later : List Alignment) where
  explained_on : a.position < c → a.position + a.shift ≤ c → explained_by c j (a ∷ later) ≡ explained_by c j later
  unfolding explained_by
  explained_on l u = rw (ne_eqb a.position c (omega arith), le-ltb c (a.position + a.shift) u)

  explained_laid : a.position ≡ c → explained_by c j (a ∷ later) ≡ where_laid a
  unfolding explained_by
  explained_laid e = rw (eq-eqb a.position c e)

  explained_past : a.position < c → c < a.position + a.shift → explained_by c j (a ∷ later) ≡ PassedOver a.position j (kind_of a)
  unfolding explained_by
  explained_past l u = rw (ne_eqb a.position c (omega arith), lt-ltb c (a.position + a.shift) u)

-- the pattern laid at a position lists it or tries it
pub laid_listed : (a : Alignment) → is_occurrence a ≡ true → where_laid a ≡ Listed
unfolding where_laid
laid_listed a e = rw e

pub laid_tried : (a : Alignment) → is_occurrence a ≡ false → where_laid a ≡ Tried (get_or a.row a.agreed 0)
unfolding where_laid
laid_tried a e = rw e

-- the pattern laid at a position does not pass it over
is_passed : Explanation → Bool
is_passed (PassedOver from j kind) = true
is_passed Listed = false
is_passed (Tried i) = false

not_passed : (a : Alignment) {from j : ℕ} {kind : ShiftKind} → where_laid a ≡ PassedOver from j kind → ⊥
unfolding is_passed
not_passed a e =
    ⊎_elim
    (λ q. true≢false (sym (ap is_passed (sym (laid_listed a q) ∙ e))))
    (λ q. true≢false (sym (ap is_passed (sym (laid_tried a q) ∙ e))))
    (true_or_false (is_occurrence a))

-- the alignments before one that reaches c are passed over
skip :
    (b c j : ℕ) (before : List Alignment) (a : Alignment) (later : List Alignment) → Follow b (before ++ (a ∷ later)) → a.position ≤ c →
    explained_by c j (before ++ (a ∷ later)) ≡ explained_by c j (a ∷ later)
unfolding Follow
skip b c j [] a later follow l = refl
skip b c j (x ∷ before) a later (at, on, rest) l =
    let next = follow_from (b + x.shift) before a later rest in
    explained_on c j x (before ++ (a ∷ later)) (omega arith) (omega arith) ∙ skip (b + x.shift) c j before a later rest l

module _ (f : ℕ → ℕ) (N : ℕ) (w : List ℕ) (nonempty : 1 ≤ length w) (c : ℕ) where
  abbrev spoilt : ℕ
  spoilt = first_spoilt f w c (comparisons_of (alignments f N w))

  module _ {a : Alignment} (made : Made f N w a) where
    told : a.position ≤ c → explanation f N w c ≡ explained_by c spoilt (a ∷ made.later)
    unfolding explanation
    told l = ap (explained_by c spoilt) made.split ∙ skip 0 c spoilt made.before a made.later (rw made.split at (follows f N w nonempty)) l

    pub told_laid : a.position ≡ c → explanation f N w c ≡ where_laid a
    told_laid e = told (omega arith) ∙ explained_laid c spoilt a made.later e

    pub told_past : a.position < c → c < a.position + a.shift → explanation f N w c ≡ PassedOver a.position spoilt (kind_of a)
    told_past l u = told (omega arith) ∙ explained_past c spoilt a made.later l u

    -- all agree just where its position is an occurrence
    tells : a.position ≡ c → is_occurrence a ≡ occurs f N w c
    tells e = occurring f N w nonempty made ∙ ap (occurs f N w) e

    -- one differs
    tried : a.position ≡ c → is_occurrence a ≡ false → TriedAt f N w c (get_or a.row a.agreed 0)
    unfolding is_occurrence
    tried e none =
        let shown = rw e at (ends f N w nonempty made) in
        let in_row : a.agreed < length a.row = omega (arith, shown.within, eqb-false a.agreed (length a.row) none) in
        record {
          here = a;
          made = made;
          there = e;
          in_row = in_row;
          differing = refl;
          differs = λ q. shown.differ in_row (sym q);
          agree = λ x l. sym (shown.agree x l);
        }

    -- the shift goes past c
    spoilt_past : a.position < c → c < a.position + a.shift → Spoilt f w (comparisons_of (alignments f N w)) c
    unfolding PassedSpoilt
    spoilt_past l u =
        let found = passed_spoilt f N w nonempty made.before a made.later made.split c l u in
        let all = comparisons_of (made.before ++ (a ∷ [])) in
        let whole = ap comparisons_of made.split ∙ comparisons_split made.before a made.later in
        record {
          j = found.j;
          inside = found.inside;
          compared = rw whole (compared_before all (comparisons_of made.later) (c + found.j) found.compared);
          differs = found.differs;
        }

  -- so that the pattern was never laid there, and the earliest comparison is the one named
  passed : {a : Alignment} → Made f N w a → a.position < c → c < a.position + a.shift → PassedAt f N w c a.position spoilt (kind_of a)
  passed {a} made l u =
      record {
        never_laid = λ x other at. not_passed x (sym (told_laid other at) ∙ told_past made l u);
        here = a;
        made = made;
        there = refl;
        after = l;
        before = u;
        shifts_by = shifts_so f N w nonempty made;
        spoilt = earliest_first f w c (comparisons_of (alignments f N w)) (spoilt_past made l u);
      }

  -- what is tried differs at a position of the pattern, and not all agree
  module _ {i : ℕ} (h : TriedAt f N w c i) where
    row_inside : i < length w
    row_inside =
        let by = stepped f N w nonempty h.made in
        let whole = step_row f w by.b by.s by.repeat in
        let in_row = rw (by.same, whole) at h.in_row in
        rw (h.differing, by.same, whole) (row_below w by.repeat nonempty _ in_row)

    differing_not : is_occurrence h.here ≡ false
    unfolding is_occurrence
    differing_not = ne_eqb h.here.agreed (length h.here.row) (omega (arith, h.in_row))

  -- the explanation defined is true
  true_of : c + length w ≤ N → TrueOf f N w c (explanation f N w c)
  unfolding TrueOf
  true_of inside =
      let r = reaching f N w nonempty c inside in
      let a = r.here in
      let made : Made f N w a = record { before = r.before; later = r.later; split = r.split } in
      ⊎_elim
      (λ e.
      ⊎_elim
      (λ all. rw (told_laid made e, laid_listed a all) (sym (tells made e) ∙ all))
      (λ none. rw (told_laid made e, laid_tried a none) (tried made e none))
      (true_or_false (is_occurrence a)))
      (λ l. rw (told_past made l r.high) (passed made l r.high))
      (eq-or-lt_of_le r.low)

  -- and no other is
  listed_only : occurs f N w c ≡ true → (e : Explanation) → TrueOf f N w c e → Listed ≡ e
  unfolding TrueOf
  listed_only found Listed h = refl
  listed_only found (Tried i) h =
      absurd (h.differs (sym (occurs_agrees f N w c found i (row_inside h))))
  listed_only found (PassedOver from j kind) h =
      absurd (h.spoilt.differs (sym (occurs_agrees f N w c found j h.spoilt.inside)))

  only : c + length w ≤ N → (e : Explanation) → TrueOf f N w c e → e ≡ explanation f N w c
  unfolding TrueOf
  only inside Listed h = listed_only h (explanation f N w c) (true_of inside)
  only inside (Tried i) h = rw h.differing (sym (told_laid h.made h.there ∙ laid_tried h.here (differing_not h)))
  only inside (PassedOver from j kind) h =
      let told = told_past h.made (omega (arith, h.there, h.after)) (omega (arith, h.there, h.before)) in
      let earliest = first_earliest f w c _ j h.spoilt in
      rw (← h.there, shifts_only f N w nonempty h.made h.shifts_by)
      (sym (told ∙ ap (λ x. PassedOver h.here.position x (kind_of h.here)) earliest))

pub one_explanation : OneExplanation
unfolding OneExplanation
one_explanation f N w h b l = (true_of f N w h b l, only f N w h b l)

first_same :
    (f g : ℕ → ℕ) (w : List ℕ) (b : ℕ) (all : List Comparison) → SameAt all f g → first_spoilt g w b all ≡ first_spoilt f w b all
unfolding SameAt first_spoilt spoils
first_same f g w b [] same = refl
first_same f g w b (c ∷ later) same = rw (same.0, first_same f g w b later same.1)

pub comparisons_explain : ComparisonsExplain
unfolding ComparisonsExplain ComparisonsDecide explanation
comparisons_explain f g N w h same b =
    rw (comparisons_decide f g N w h same, first_same f g w b (comparisons_of (alignments f N w)) same)
