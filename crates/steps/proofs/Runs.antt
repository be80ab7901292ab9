-- An alignment of a run is a step, of which what the steps before it have shown is known
-- (`by_step`), and it stands where they end (`Follow`). By induction on the fuel and the alignments.
use mathlib.Core.Bool.{Bool, false}
use mathlib.Core.List.{List, [], ◌∷◌, ◌++◌, append_assoc, append-nil}
use mathlib.Core.Logic.{⊎_elim}
use mathlib.Core.Path.{◌≡◌, refl, sym, ◌∙◌, ap}
use Prim.Native.Nat.{ℕ, zero, suc, ◌+◌, ◌≤◌, ◌<◌}
use native.Mathlib.Omega.{arith}
use lib.ListN.{length, length-append}
use Rattle.tables.proofs.Cases.{le_or_lt}
use Rattle.steps.proofs.Fuel.{shift_positive, fuel_enough}
use Rattle.steps.proofs.Occurrences.{Known, known_on, known_first}
use Rattle.steps.proofs.Steps.{step_position, run_over, run_step}
use Rattle.steps.specs.Promises.{FuelEnough, ends_at}
use Rattle.steps.specs.Steps.{Comparison, Alignment, step, repeat_after, alignments_from, alignments, compared, comparisons_of}

none_not : (before later : List Alignment) (a : Alignment) → [] ≡ before ++ (a ∷ later) → ⊥
none_not before later a e = let size = ap length e ∙ length-append before (a ∷ later) in omega arith

-- the comparisons of alignments and of others after them
pub comparisons_append : (before later : List Alignment) → comparisons_of (before ++ later) ≡ comparisons_of before ++ comparisons_of later
unfolding comparisons_of
comparisons_append [] later = refl
comparisons_append (x ∷ before) later = rw (comparisons_append before later) (sym (append_assoc (compared x) (comparisons_of before) (comparisons_of later)))

pub comparisons_one : (a : Alignment) → comparisons_of (a ∷ []) ≡ compared a
unfolding comparisons_of
comparisons_one a = append-nil (compared a)

-- of alignments, one after them, and those after that
pub comparisons_split :
    (before : List Alignment) (a : Alignment) (later : List Alignment) →
    comparisons_of (before ++ (a ∷ later)) ≡ comparisons_of (before ++ (a ∷ [])) ++ comparisons_of later
comparisons_split before a later =
    ap comparisons_of (sym (append_assoc before (a ∷ []) later)) ∙ comparisons_append (before ++ (a ∷ [])) later

-- an alignment before which these comparisons were made is a step inside the text, of which what they have shown is known
pub record ByStep (f : ℕ → ℕ) (N : ℕ) (w : List ℕ) (made : List Comparison) (a : Alignment) : Type 0 where
  pub b : ℕ
  pub s : ℕ
  pub repeat : Bool
  pub same : a ≡ step f w b s repeat
  pub inside : b + length w ≤ N
  pub known : Known f N w made b s repeat

module _ (f : ℕ → ℕ) (N : ℕ) (w : List ℕ) (nonempty : 1 ≤ length w) where
  -- of a run, before which these comparisons were made
  abbrev BySteps : (made : List Comparison) (run : List Alignment) → Type 0
  BySteps made run =
      (before : List Alignment) (a : Alignment) (later : List Alignment) → run ≡ before ++ (a ∷ later) →
      ByStep f N w (made ++ comparisons_of before) a

  -- by a step and the run after it
  by_steps_on :
      (made : List Comparison) (b s : ℕ) (repeat : Bool) → Known f N w made b s repeat → b + length w ≤ N → (rest : List Alignment) →
      BySteps (made ++ compared (step f w b s repeat)) rest → BySteps made (step f w b s repeat ∷ rest)
  unfolding comparisons_of
  by_steps_on made b s repeat known l rest more [] a later e =
      rw append-nil (record { b = b; s = s; repeat = repeat; same = cc; inside = l; known = known })
  by_steps_on made b s repeat known l rest more (x ∷ before) a later e =
      let same : step f w b s repeat ≡ x = cc in
      rw (← same, ← append_assoc) (more before a later (cc))

  by_steps_from :
      (fuel : ℕ) (made : List Comparison) (b s : ℕ) (repeat : Bool) → Known f N w made b s repeat →
      BySteps made (alignments_from fuel f N w b s repeat)
  unfolding alignments_from
  by_steps_from zero made b s repeat known before a later e = absurd (none_not before later a e)
  by_steps_from (suc fuel) made b s repeat known before a later e =
      let here = step f w b s repeat in
      let rest = alignments_from fuel f N w (b + here.shift) here.shift (repeat_after w here) in
      ⊎_elim
      (λ v.
      by_steps_on made b s repeat known v rest
      (by_steps_from fuel _ _ _ _ (known_on f N w nonempty made b s repeat known v)) before a later
      (sym (run_step f w b s repeat fuel N v) ∙ e))
      (λ v. absurd (none_not before later a (sym (run_over f w b s repeat (suc fuel) N v) ∙ e)))
      (le_or_lt (b + length w) N)

  -- every alignment of a search
  pub by_step :
      (before : List Alignment) (a : Alignment) (later : List Alignment) → alignments f N w ≡ before ++ (a ∷ later) →
      ByStep f N w (comparisons_of before) a
  unfolding alignments
  by_step = by_steps_from (suc N) [] 0 (length w) false (known_first f N w nonempty)

-- alignments from b on: each stands where the one before it ends, and shifts on
unfoldable pub Follow : (b : ℕ) → List Alignment → Type 0
Follow b [] = Unit {0}
Follow b (a ∷ later) = (a.position ≡ b) × (1 ≤ a.shift) × Follow (b + a.shift) later

pub follow_from : (b : ℕ) (before : List Alignment) (a : Alignment) (later : List Alignment) → Follow b (before ++ (a ∷ later)) → b ≤ a.position
unfolding Follow
follow_from b [] a later (at, on, rest) = omega arith
follow_from b (x ∷ before) a later (at, on, rest) = omega (arith, follow_from (b + x.shift) before a later rest)

-- one of these alignments reaches position c: it stands at c, or its shift goes past it
pub record Reaching (run : List Alignment) (c : ℕ) : Type 0 where
  pub before : List Alignment
  pub here : Alignment
  pub later : List Alignment
  pub split : run ≡ before ++ (here ∷ later)
  pub low : here.position ≤ c
  pub high : c < here.position + here.shift

follow_reaches : (b : ℕ) (run : List Alignment) (c : ℕ) → Follow b run → b ≤ c → c < ends_at b run → Reaching run c
unfolding Follow ends_at
follow_reaches b [] c follow l u = absurd (omega arith)
follow_reaches b (a ∷ later) c (at, on, rest) l u =
    ⊎_elim
    (λ v.
    let r = follow_reaches (b + a.shift) later c rest v u in
    record { before = a ∷ r.before; here = r.here; later = r.later; split = ap (λ (x : List Alignment). a ∷ x) r.split; low = r.low; high = r.high })
    (λ v. record { before = []; here = a; later = later; split = refl; low = omega arith; high = omega arith })
    (le_or_lt (b + a.shift) c)

module _ (f : ℕ → ℕ) (N : ℕ) (w : List ℕ) (nonempty : 1 ≤ length w) where
  follow_run : (fuel b s : ℕ) (repeat : Bool) → Follow b (alignments_from fuel f N w b s repeat)
  unfolding alignments_from Follow
  follow_run zero b s repeat = tt
  follow_run (suc fuel) b s repeat =
      let here = step f w b s repeat in
      ⊎_elim
      (λ v.
      rw (run_step f w b s repeat fuel N v)
      (step_position f w b s repeat, shift_positive f w b s repeat nonempty, follow_run fuel (b + here.shift) here.shift (repeat_after w here)))
      (λ v. rw (run_over f w b s repeat (suc fuel) N v) tt)
      (le_or_lt (b + length w) N)

  pub follows : Follow 0 (alignments f N w)
  unfolding alignments
  follows = follow_run (suc N) 0 (length w) false

  -- every position inside the text is reached
  pub reaching : (c : ℕ) → c + length w ≤ N → Reaching (alignments f N w) c
  unfolding alignments FuelEnough
  reaching c l =
      follow_reaches 0 (alignments f N w) c follows (omega arith)
      (omega (arith, (fuel_enough f N w nonempty (suc N) 0 (length w) false (omega arith)).1))
