-- Every position that a shift passes over is spoilt by a comparison made so far (`PassedSpoilt`), over any text.
-- An alignment of the search is a step, which spoils what it passes over by what is carried to it.
use mathlib.Core.List.{[], ◌∷◌}
use mathlib.Core.Path.{◌≡◌}
use Prim.Native.Nat.{◌+◌, ◌-◌}
use native.Mathlib.Omega.{arith}
use Rattle.steps.proofs.Runs.{comparisons_append, comparisons_one, by_step}
use Rattle.steps.proofs.Shift.{passed_over}
use Rattle.steps.proofs.Steps.{step_position}
use Rattle.steps.specs.Promises.{PassedSpoilt}

pub passed_spoilt : PassedSpoilt
unfolding PassedSpoilt
passed_spoilt f N w h before a later e c l u =
    let here = by_step f N w h before a later e in
    let at = step_position f w here.b here.s here.repeat in
    let l' = rw (here.same, at) at l in
    let u' = rw (here.same, at) at u in
    let there : here.b + (c - here.b) ≡ c = omega arith in
    rw (comparisons_append before (a ∷ []), comparisons_one, here.same)
    (rw there at (passed_over f w _ here.b here.s here.repeat h here.known.carried (c - here.b) (omega arith) (omega arith)))
