-- Alignments whose first comparison differs: the steps go on from one with nothing listed, one
-- comparison counted and Δ1 as the shift; and where the steps stand once they have passed them. By
-- the law of the pattern as it is laid after such an alignment.
use mathlib.Core.Bool.{Bool, false}
use mathlib.Core.List.{List, []}
use mathlib.Core.Logic.{◌≢◌}
use mathlib.Core.Path.{◌≡◌, sym, ◌∙◌}
use Prim.Native.Nat.{ℕ, ◌+◌, ◌-◌, ◌≤◌, ◌<◌}
use native.Mathlib.Nat.{add-zero}
use native.Mathlib.Omega.{arith}
use lib.ListN.{length}
use Rattle.tables.specs.Sets.{byte}
use Rattle.tables.specs.Tables.{Δ1}
use Rattle.steps.proofs.Rows.{row_some}
use Rattle.steps.proofs.Text.{shown_byte}
use Rattle.steps.specs.Text.{shown}
use Rattle.alignment.proofs.Laying.{none_agree, after_first}
use Rattle.alignment.specs.Laid.{laid_at}
use Rattle.alignment.specs.Ready.{Taken}
use Rattle.run_state.proofs.Stretch.{stretch_then, stretch_differing}
use Rattle.run_state.specs.Progress.{at, Followed, Stretch, PassedDiffering}
use Rattle.run_state.specs.declared.Progress.{Progress}

module _ {w t : List ℕ} (taken : Taken w t) {x : Progress} {b s h n : ℕ} {r : Bool} (so_far : Stretch w t x (at (laid_at b s r) h n) []) where
  abbrev last : ℕ
  last = length w - 1

  -- the alignment ends inside the text
  module _ (inside : b + last < length t) where
    pub pass_on :
        {k : ℕ} → r ≡ false → byte t (b + last) ≢ byte w last → k ≡ Δ1 w (shown t (b + last)) s → Stretch w t x (at (laid_at (b + k) k r) h (n + 1)) []
    pass_on order differs shifted =
        let in_text : b + length w ≤ length t = omega (arith, taken.some) in
        let none = none_agree taken (laid_at b s r) in_text differs in
        let turn = stretch_differing taken so_far.standing none (row_some w r taken.some) in
        rw order (stretch_then taken so_far (rw (add-zero, after_first taken (laid_at b s r) in_text differs shifted) at turn))

    pub pass_stop : Followed w t (laid_at b s r) → byte t (b + last) ≡ byte w last → PassedDiffering w t x (at (laid_at b s r) h n)
    pass_stop followed agrees =
        record { stretch = so_far; followed = followed; agrees = λ l. sym agrees ∙ sym (shown_byte t (b + last) inside) }
