-- One rule is a pattern and its hold offset (`OneFrames`), and claims no byte twice (`OneOnce`):
-- it is the only rule that can claim one.
use mathlib.Core.List.{[], ◌∷◌}
use mathlib.Core.Logic.{⊎_elim}
use mathlib.Core.Path.{refl}
use native.Mathlib.Omega.{arith}
use Rattle.tables.proofs.Cases.{true_or_false}
use Rattle.frames.specs.Frames.{frames}
use Rattle.rules_claims.proofs.Twice.{each_once}
use Rattle.rules_claims.specs.Claims.{claims, claimants}
use Rattle.rules_frames.specs.Promises.{OneFrames, OneOnce}
use Rattle.rules_frames.specs.RuleFrames.{marked, rule_frames}

pub one_frames : OneFrames
unfolding OneFrames rule_frames marked frames
one_frames r t = refl

pub one_once : OneOnce
unfolding OneOnce claimants
one_once r t =
    each_once (r ∷ []) t
    (λ i l. ⊎_elim (λ y. rw y (omega arith)) (λ y. rw y (omega arith)) (true_or_false (claims r t i)))
