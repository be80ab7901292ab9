-- The comparisons of an alignment in progress, along its row: what the loop over them keeps, and how it ends.
-- By the laws of the count of those that agree.
use mathlib.Core.List.{List}
use mathlib.Core.Logic.{◌≢◌}
use mathlib.Core.Path.{◌≡◌, sym, ◌∙◌}
use Prim.Native.Nat.{ℕ, ◌+◌, ◌≤◌, ◌<◌}
use native.Mathlib.Numerals.{add-one}
use native.Mathlib.Omega.{arith}
use lib.ListN.{length, get_or}
use Rattle.tables.specs.Sets.{byte}
use Rattle.steps.proofs.Steps.{Agreed, agreed_none, agreed_more, agreed_stop, agreed_all}
use Rattle.steps.specs.Steps.{agreeing}
use Rattle.steps.specs.Text.{shown}

-- the first i positions of a row agree at b
pub record Along (w t : List ℕ) (b : ℕ) (row : List ℕ) (i : ℕ) : Type 0 where
  pub within : i ≤ length row
  pub agreed : Agreed (shown t) w b row i

module _ (w t : List ℕ) (b : ℕ) (row : List ℕ) where
  pub along_none : Along w t b row 0
  along_none = record { within = omega arith; agreed = agreed_none (shown t) w b row }

  module _ {i : ℕ} (known : Along w t b row i) where
    -- the position at index i is compared
    module _ (inside : i < length row) {at : ℕ} (entry : at ≡ get_or row i 0) where
      pub along_more : byte w at ≡ shown t (b + at) → Along w t b row (i + 1)
      along_more e =
          rw add-one
          (record { within = inside; agreed = agreed_more (shown t) w b row i inside known.agreed (rw entry at e) })

      pub along_stop : byte w at ≢ shown t (b + at) → i ≡ agreeing (shown t) w b row
      along_stop d = sym (agreed_stop (shown t) w b row i inside known.agreed (rw entry at d))

    -- all are
    pub along_all : i ≡ length row → i ≡ agreeing (shown t) w b row
    along_all e = e ∙ sym (agreed_all (shown t) w b row (rw e at known.agreed))
