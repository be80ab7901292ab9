-- One rule is a pattern and its hold offset: what frames are put back to by it, and the test. Its
-- frames are that pattern's, and no byte is claimed twice by it.
use mathlib.Core.List.{List, [], ◌∷◌}
use mathlib.Core.Path.{◌≡◌, refl}
use Prim.Native.Nat.{ℕ}
use lib.ListN.{length}
use Rattle.tables.proofs.Least.{all_same}
use Rattle.restore_conversions.specs.Restored as one
use Rattle.rules.specs.Rules.{Rule, held}
use Rattle.rules_frames.proofs.One.{one_frames, one_once}
use Rattle.rules_frames.specs.Promises.{OneFrames, OneOnce}
use Rattle.rules_conversions.specs.Conversions.{restored, converts_again, is_conversion}
use Rattle.rules_conversions.specs.Promises.{OneRestored, OneTested}

pub one_restored : OneRestored
unfolding OneRestored restored one.restored held
one_restored r gs = refl

-- the test of each byte is that pattern's
one_again :
    (r : Rule) (gs : List ℕ) (i : ℕ) →
    converts_again (r ∷ []) gs i ≡ one.converts_again r.hold_offset r.pattern gs i
unfolding converts_again one.converts_again OneFrames OneRestored
one_again r gs i = rw (one_restored r gs, one_frames r)

pub one_tested : OneTested
unfolding OneTested is_conversion one.is_conversion OneOnce
one_tested r gs =
    rw (one_once r (restored (r ∷ []) gs)) (all_same (length gs) 0 _ _ (one_again r gs))
