-- What is promised of the numbers of an explanation: a type, and its proof is in proofs/ (docs/PROMISES.md). This is a definition.
use Rattle.std.specs.Prelude.{◌≡◌}
use Rattle.explain_answers.specs.Answer.{explained}
use Rattle.explain_answers.specs.declared.Explanation.{Explanation}

-- the numbers tell the explanation: no two have the same
unfoldable pub NumbersTell : Type 0
NumbersTell = (d e : Explanation) → explained d ≡ explained e → d ≡ e
