-- A run of tests as a loop goes over it: those from x on are left of it.
-- By the laws of a run that is one number longer, and of one that is over.
use mathlib.Core.Bool.{Bool, true, false}
use mathlib.Core.Path.{◌≡◌, ◌∙◌}
use Prim.Native.Nat.{ℕ, suc, ◌-◌, ◌≤◌, ◌<◌}
use Rattle.tables.proofs.Least.{run_on, run_over}
use Rattle.tables.specs.Least.{all_from}

module _ (f : ℕ → Bool) (n x : ℕ) (same : all_from n 0 f ≡ all_from (n - x) x f) where
  pub run_fails : x < n → f x ≡ false → all_from n 0 f ≡ false
  run_fails l e = same ∙ run_on f n x l ∙ rw e

  -- a number that passes is passed over
  pub run_passes : x < n → f x ≡ true → all_from n 0 f ≡ all_from (n - suc x) (suc x) f
  run_passes l e = same ∙ run_on f n x l ∙ rw e

  -- past the last number the run has passed
  pub run_ended : n ≤ x → all_from n 0 f ≡ true
  run_ended l = same ∙ run_over f n x l
