-- What the comparisons of one alignment spoil of a position b, as the loop over them goes on: those so far spoil nothing, one does, or none of them.
-- By what the comparisons along a row spoil.
use mathlib.Core.List.{List}
use mathlib.Core.Logic.{◌≢◌, ⊎_elim}
use mathlib.Core.Path.{◌≡◌, sym}
use Prim.Native.Nat.{ℕ, suc, ◌+◌, ◌-◌, ◌≤◌, ◌<◌}
use native.Mathlib.Nat.{eq-or-lt_of_le}
use native.Mathlib.Omega.{arith}
use lib.ListN.{length, get_or}
use Rattle.tables.specs.Sets.{byte}
use Rattle.steps.proofs.Rows.{row_below}
use Rattle.steps.proofs.Steps.{step_comparisons}
use Rattle.steps.specs.Steps.{agreeing, row, compared}
use Rattle.steps.specs.Text.{shown}
use Rattle.alignment.specs.Laid.{ComparedSo, alignment}
use Rattle.alignment.specs.Ready.{Taken}
use Rattle.alignment.specs.declared.Laid.{Laid}
use Rattle.explain_meaning.proofs.Spoilt.{Unspoilt, none_along, first_along}
use Rattle.explain_meaning.specs.Explanation.{first_spoilt}

-- the comparisons before index i of the row spoil nothing of b
abbrev pub Clear : (w t : List ℕ) (x : Laid) (b i : ℕ) → Type 0
Clear w t x b i = Unspoilt (shown t) w b x.position (row w x.repeat) i

module _ {w t : List ℕ} (taken : Taken w t) (x : Laid) {agreed : ℕ} (ended : ComparedSo w t x agreed) (b : ℕ) where
  -- the comparisons of the alignment, as they go along its row
  abbrev f : ℕ → ℕ
  f = shown t

  abbrev entries : List ℕ
  entries = row w x.repeat

  abbrev Spoils : (j : ℕ) → Type 0
  Spoils j = j ≡ first_spoilt f w b (compared (alignment w t x))

  counted : agreeing f w x.position entries ≡ agreed
  counted = sym ended.count

  -- all of them spoil nothing
  pub clear_all : (i : ℕ) → Clear w t x b i → ((k : ℕ) → k ≤ agreed → k < length entries → k < i) → Spoils (length w)
  clear_all i clear all =
      rw (step_comparisons f w x.position x.shift x.repeat, counted)
      (sym (none_along f w b x.position (suc agreed) entries (λ k l u low. clear k (all k (omega arith) u) u low)))

  -- the position at index i is compared next
  module _ {i y : ℕ} (clear : Clear w t x b i) (inside : i < length entries) (at : y ≡ x.position + get_or entries i 0) where
    pub below : get_or entries i 0 < length w
    below = row_below w x.repeat taken.some i inside

    -- it spoils b
    pub spoils_here : i ≤ agreed → x.position ≤ b → b ≤ y → f y ≢ byte w (y - b) → Spoils (y - b)
    spoils_here few before low differs =
        rw (step_comparisons f w x.position x.shift x.repeat, counted, at)
        (sym (first_along f w b x.position (suc agreed) entries i (omega arith) inside (omega arith) (omega (arith, below)) (rw at at differs) clear))

    -- or not
    pub clear_more : (b ≤ y → f y ≡ byte w (y - b)) → Clear w t x b (i + 1)
    clear_more agrees k l u low =
        let up_to : k ≤ i = omega arith in
        ⊎_elim
        (λ e. rw e (rw at at (agrees (rw (at, ← e) low))))
        (λ before. clear k before u low)
        (eq-or-lt_of_le up_to)
