-- The reasons of a refusal: none is numbered 0, so that a test that answers a reason tells that a condition holds.
-- By cases on the reason.
use mathlib.Core.Path.{◌≡◌}
use native.Mathlib.Omega.{arith}
use Rattle.answers.specs.Reasons.{number_of}
use Rattle.answers.specs.declared.Reason.{Reason}
use Rattle.answers.specs.declared.Reason.TheVariants.{FileLength, WrongByte, Edition, PatternLength, HoldOffset, TextLength, ShortBuffer, Way, NoConversion, Position, RuleNumber, ClaimedTwice, Role}

pub numbered : (reason : Reason) → number_of reason ≡ 0 → ⊥
numbered FileLength e = omega arith
numbered WrongByte e = omega arith
numbered Edition e = omega arith
numbered PatternLength e = omega arith
numbered HoldOffset e = omega arith
numbered TextLength e = omega arith
numbered ShortBuffer e = omega arith
numbered Way e = omega arith
numbered NoConversion e = omega arith
numbered Position e = omega arith
numbered RuleNumber e = omega arith
numbered ClaimedTwice e = omega arith
numbered Role e = omega arith
