-- One step, unfolded once: how many comparisons agree along a row, the shift, the number of comparisons, and a run by its first step.
-- By the tests of the definitions; after this file no proof unfolds `step` or `compared`.
use mathlib.Core.Bool.{Bool, ◌&&◌, cond}
use mathlib.Core.List.{List, [], ◌∷◌, map}
use mathlib.Core.Logic.{◌≢◌, ⊎_elim}
use mathlib.Core.Path.{◌≡◌, refl, sym}
use Prim.Native.Nat.{ℕ, zero, suc, ◌+◌, ◌-◌, ◌≤◌, ◌<◌, min}
use native.Mathlib.Nat.{zero-add}
use native.Mathlib.Omega.{arith}
use borrow.Author.Tests.{eq-eqb, ne_eqb, le-leb, lt-leb}
use lib.Dec.{eqb}
use lib.ListN.{length, get_or, take, drop, length-append, length-map, length-take}
use lib.Seq.{drop-cons, drop-length}
use Rattle.tables.proofs.Cases.{eq_or_ne}
use Rattle.tables.specs.Sets.{byte}
use Rattle.tables.specs.Tables.{Δ1, repeats}
use Rattle.steps.specs.Steps.{Alignment, agreeing, row, shifts, step, is_occurrence, repeat_after, alignments_from, compared, comparisons_of, listed}

-- what an alignment at b shows at a pattern position
abbrev pub Agrees : (f : ℕ → ℕ) (w : List ℕ) (b g : ℕ) → Type 0
Agrees f w b g = byte w g ≡ f (b + g)

abbrev pub Differs : (f : ℕ → ℕ) (w : List ℕ) (b g : ℕ) → Type 0
Differs f w b g = byte w g ≢ f (b + g)

module _ (f : ℕ → ℕ) (w : List ℕ) (b : ℕ) where
  -- along a row an agreeing comparison is counted, and a differing one ends the count
  pub agreeing_none : agreeing f w b [] ≡ 0
  unfolding agreeing
  agreeing_none = refl

  pub agreeing_agrees : (i : ℕ) (row : List ℕ) → Agrees f w b i → agreeing f w b (i ∷ row) ≡ suc (agreeing f w b row)
  unfolding agreeing
  agreeing_agrees i row e = rw (eq-eqb _ _ e)

  pub agreeing_differs : (i : ℕ) (row : List ℕ) → Differs f w b i → agreeing f w b (i ∷ row) ≡ 0
  unfolding agreeing
  agreeing_differs i row d = rw (ne_eqb _ _ d)

  -- the first n entries of a row agree, and the next one, if there is one, differs
  pub record Ends (row : List ℕ) (n : ℕ) : Type 0 where
    pub within : n ≤ length row
    pub agree : (x : ℕ) → x < n → Agrees f w b (get_or row x 0)
    pub differ : n < length row → Differs f w b (get_or row n 0)

  pub agreeing_ends : (row : List ℕ) → Ends row (agreeing f w b row)
  agreeing_ends [] =
      rw agreeing_none (record { within = omega arith; agree = λ x l. absurd (omega arith); differ = λ l. absurd (omega arith) })
  agreeing_ends (i ∷ row) = ⊎_elim (on (agreeing_ends row)) stop (eq_or_ne (byte w i) (f (b + i)))
    where
      on : Ends row (agreeing f w b row) → Agrees f w b i → Ends (i ∷ row) (agreeing f w b (i ∷ row))
      on r e = rw (agreeing_agrees i row e) (record { within = omega arith; agree = front; differ = λ l. r.differ (omega arith) })
        where
          front : (x : ℕ) → x < suc (agreeing f w b row) → Agrees f w b (get_or (i ∷ row) x 0)
          front zero l = e
          front (suc x) l = r.agree x (omega arith)

      stop : Differs f w b i → Ends (i ∷ row) (agreeing f w b (i ∷ row))
      stop d = rw (agreeing_differs i row d) (record { within = omega arith; agree = λ x l. absurd (omega arith); differ = λ l. d })

  pub agreeing_at_most : (row : List ℕ) → agreeing f w b row ≤ length row
  agreeing_at_most row = (agreeing_ends row).within

  -- the first n entries of a row agree: the count goes on with those after them
  abbrev pub Agreed : (row : List ℕ) → (n : ℕ) → Type 0
  Agreed row n = agreeing f w b row ≡ n + agreeing f w b (drop n row)

  pub agreed_none : (row : List ℕ) → Agreed row 0
  agreed_none row = sym (zero-add _)

  pub agreed_more : (row : List ℕ) (n : ℕ) → n < length row → Agreed row n → Agrees f w b (get_or row n 0) → Agreed row (suc n)
  agreed_more row n l h e =
      let next = rw (drop-cons row n 0 l) at h in
      omega (arith, agreeing_agrees (get_or row n 0) (drop (suc n) row) e)

  pub agreed_stop : (row : List ℕ) (n : ℕ) → n < length row → Agreed row n → Differs f w b (get_or row n 0) → agreeing f w b row ≡ n
  agreed_stop row n l h d =
      let next = rw (drop-cons row n 0 l) at h in
      omega (arith, agreeing_differs (get_or row n 0) (drop (suc n) row) d)

  pub agreed_all : (row : List ℕ) → Agreed row (length row) → agreeing f w b row ≡ length row
  agreed_all row h = let next = rw drop-length at h in omega (arith, agreeing_none)

module _ (f : ℕ → ℕ) (w : List ℕ) (b s : ℕ) (repeat : Bool) where
  -- how many entries of its row agree
  abbrev agreed : ℕ
  agreed = agreeing f w b (row w repeat)

  -- the shift is Δ1 where the first comparison differs, else the one beside the row by the number that agreed
  pub step_shift_first : agreed ≡ 0 → (step f w b s repeat).shift ≡ Δ1 w (f (b + (length w - 1))) s
  unfolding step
  step_shift_first e = rw (eq-eqb _ 0 e)

  pub step_shift_later : 1 ≤ agreed → (step f w b s repeat).shift ≡ get_or (shifts w repeat) agreed 0
  unfolding step
  step_shift_later l = rw (ne_eqb agreed 0 (omega arith))

  -- of the text a step reads only how many agree and the byte at the last position
  pub step_determined :
      (g : ℕ → ℕ) → agreeing g w b (row w repeat) ≡ agreed → g (b + (length w - 1)) ≡ f (b + (length w - 1)) →
      step g w b s repeat ≡ step f w b s repeat
  unfolding step
  step_determined g a c = rw (a, c)

  -- the comparisons are those that agreed, and one more where one differed
  pub step_comparisons :
      compared (step f w b s repeat)
      ≡ map (λ i. record { pattern_position = i; text_position = b + i }) (take (suc agreed) (row w repeat))
  unfolding step compared
  step_comparisons = refl

  pub step_count :
      (later : List Alignment) →
      length (comparisons_of (step f w b s repeat ∷ later)) ≡ min (suc agreed) (length (row w repeat)) + length (comparisons_of later)
  unfolding comparisons_of
  step_count later = simp (length-append, step_comparisons, length-map, length-take)

  -- a step lists its own position where all agree
  pub step_listed :
      (later : List Alignment) →
      listed (step f w b s repeat ∷ later) ≡ cond (eqb agreed (length (row w repeat))) (b ∷ listed later) (listed later)
  unfolding listed is_occurrence step
  step_listed later = refl

  -- the next one is a repeat where all agree and the pattern repeats
  pub step_repeat : repeat_after w (step f w b s repeat) ≡ eqb agreed (length (row w repeat)) && repeats w
  unfolding repeat_after is_occurrence step
  step_repeat = refl

  -- a step is an occurrence where all agree
  pub step_is_occurrence : is_occurrence (step f w b s repeat) ≡ eqb agreed (length (row w repeat))
  unfolding is_occurrence step
  step_is_occurrence = refl

  -- whether it is a repeat, its row, and how many agree along it
  pub step_is_repeat : (step f w b s repeat).repeat ≡ repeat
  unfolding step
  step_is_repeat = refl

  pub step_row : (step f w b s repeat).row ≡ row w repeat
  unfolding step
  step_row = refl

  pub step_agreed : (step f w b s repeat).agreed ≡ agreed
  unfolding step
  step_agreed = refl

  -- it stands at its position
  pub step_position : (step f w b s repeat).position ≡ b
  unfolding step
  step_position = refl

  -- a run ends past the text's end, and goes on by a step before it
  pub run_over : (fuel N : ℕ) → N < b + length w → alignments_from fuel f N w b s repeat ≡ []
  unfolding alignments_from
  run_over zero N h = refl
  run_over (suc fuel) N h = rw (lt-leb _ _ h)

  pub run_step :
      (fuel N : ℕ) → b + length w ≤ N →
      let here = step f w b s repeat in
      alignments_from (suc fuel) f N w b s repeat
      ≡ here ∷ alignments_from fuel f N w (b + here.shift) here.shift (repeat_after w here)
  unfolding alignments_from
  run_step fuel N h = rw (le-leb _ _ h)
