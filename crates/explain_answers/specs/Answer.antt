-- The explanation at the C boundary, which carries no enum: the numbers and values of each case, in document 02's order. These are definitions.
use Rattle.std.specs.Prelude.{ℕ}
use Rattle.answers.specs.Answers.{status_only}
use Rattle.explain_answers.specs.declared.ShiftKind.{ShiftKind}
use Rattle.explain_answers.specs.declared.ShiftKind.TheVariants.{LastByte, Order, AfterOccurrence, LongRepeat}
use Rattle.explain_answers.specs.declared.Explanation.{Explanation}
use Rattle.explain_answers.specs.declared.Explanation.TheVariants.{Listed, Tried, PassedOver}
use Rattle.explain_answers.specs.declared.ExplainAnswer.{ExplainAnswer}

-- last card, order, after a find, long repeat: 1 to 4
abbrev pub kind_number : ShiftKind → ℕ
kind_number LastByte = 1
kind_number Order = 2
kind_number AfterOccurrence = 3
kind_number LongRepeat = 4

-- what explaining answers where it is done: 1 listed, 2 tried, 3 passed over and the shift's kind.
-- `place` is a pattern position (motif place): the one that differed, or the one that is spoilt.
-- `from` is a text position (chain place): the one shifted from. What is not told is 0
abbrev pub explained : Explanation → ExplainAnswer
explained Listed = record { answer = status_only 0; outcome = 1; place = 0; from = 0; kind = 0 }
explained (Tried i) = record { answer = status_only 0; outcome = 2; place = i; from = 0; kind = 0 }
explained (PassedOver from j k) = record { answer = status_only 0; outcome = 3; place = j; from = from; kind = kind_number k }

-- and where it is refused: zeros beside the number
abbrev pub refused : (status : ℕ) → ExplainAnswer
refused s = record { answer = status_only s; outcome = 0; place = 0; from = 0; kind = 0 }
