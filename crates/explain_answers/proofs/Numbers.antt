-- The numbers tell the explanation (`NumbersTell`): it is read back from them.
-- By cases on the explanation and its kind of shift.
use mathlib.Core.Bool.{cond}
use mathlib.Core.Path.{◌≡◌, refl, sym, ◌∙◌, ap}
use Prim.Native.Nat.{ℕ}
use lib.Dec.{eqb}
use Rattle.explain_answers.specs.Answer.{kind_number, explained}
use Rattle.explain_answers.specs.Promises.{NumbersTell}
use Rattle.explain_answers.specs.declared.ExplainAnswer.{ExplainAnswer}
use Rattle.explain_answers.specs.declared.Explanation.{Explanation}
use Rattle.explain_answers.specs.declared.Explanation.TheVariants.{Listed, Tried, PassedOver}
use Rattle.explain_answers.specs.declared.ShiftKind.{ShiftKind}
use Rattle.explain_answers.specs.declared.ShiftKind.TheVariants.{LastByte, Order, AfterOccurrence, LongRepeat}

-- a kind of shift from its number
kind_numbered : ℕ → ShiftKind
kind_numbered n = cond (eqb n 1) LastByte (cond (eqb n 2) Order (cond (eqb n 3) AfterOccurrence LongRepeat))

kind_back : (k : ShiftKind) → kind_numbered (kind_number k) ≡ k
unfolding kind_numbered
kind_back LastByte = refl
kind_back Order = refl
kind_back AfterOccurrence = refl
kind_back LongRepeat = refl

-- an explanation from its numbers
from_numbers : (outcome place from kind : ℕ) → Explanation
from_numbers outcome place from kind =
    cond (eqb outcome 1) Listed (cond (eqb outcome 2) (Tried place) (PassedOver from place (kind_numbered kind)))

back : (e : Explanation) → let r = explained e in from_numbers r.outcome r.place r.from r.kind ≡ e
unfolding from_numbers
back Listed = refl
back (Tried i) = refl
back (PassedOver from j kind) = ap (PassedOver from j) (kind_back kind)

pub numbers_tell : NumbersTell
unfolding NumbersTell
numbers_tell d e same =
    sym (back d) ∙ ap (λ (r : ExplainAnswer). from_numbers r.outcome r.place r.from r.kind) same ∙ back e
