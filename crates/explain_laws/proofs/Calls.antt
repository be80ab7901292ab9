-- Calls of `explain` beside a search (`ListedWhereFound`) and each other (`ExplainedAlike`).
-- A call that is taken answers the numbers of the explanation, which the comparisons decide.
use mathlib.Core.Path.{◌≡◌, refl, sym, ap}
use native.Mathlib.Omega.{arith}
use Rattle.steps.proofs.Text.{span_same}
use Rattle.steps.specs.Steps.{comparisons}
use Rattle.steps.specs.Text.{shown, span}
use Rattle.ring.proofs.Occurrences.{is_in_occurrences}
use Rattle.convert.proofs.Paired.{every_search_exact}
use Rattle.convert.specs.Paired.{EverySearchExact}
use Rattle.explain_answers.specs.Answer.{explained}
use Rattle.explain_answers.specs.declared.Explanation.{Explanation}
use Rattle.explain_answers.specs.declared.Explanation.TheVariants.{Listed, Tried, PassedOver}
use Rattle.explain_meaning.proofs.Meaning.{one_explanation, comparisons_explain}
use Rattle.explain_meaning.specs.Explanation.{explanation_in}
use Rattle.explain_meaning.specs.Promises.{TrueOf, OneExplanation, ComparisonsExplain}
use Rattle.explain.proofs.Calls.{fit, answer}
use Rattle.explain_laws.specs.Calls.{ListedWhereFound, ExplainedAlike}

-- only listed is answered as 1
one_listed : (e : Explanation) → (explained e).outcome ≡ 1 → e ≡ Listed
one_listed Listed h = refl
one_listed (Tried i) h = absurd (omega arith)
one_listed (PassedOver from j kind) h = absurd (omega arith)

pub listed_where_found : ListedWhereFound
unfolding ListedWhereFound OneExplanation EverySearchExact TrueOf
listed_where_found b q w t r c x s e =
    let f = fit x.outcome x.taken in
    let some = f.tables.taken.some in
    let (holds, only) = one_explanation (shown t) (span w t) w some b f.inside in
    rw (answer x.outcome x.taken, (every_search_exact q w t c s e).occurrences_found, is_in_occurrences w t some b) (
      λ h. rw (one_listed (explanation_in b w t) h) at holds,
      λ h. ap (λ (told : Explanation). (explained told).outcome) (sym (only Listed h)),
    )

pub explained_alike : ExplainedAlike
unfolding ExplainedAlike ComparisonsExplain comparisons
explained_alike b w t u r d x y size same =
    let some = (fit x.outcome x.taken).tables.taken.some in
    let alike = comparisons_explain (shown t) (shown u) (span w t) w some same b in
    rw (answer x.outcome x.taken, answer y.outcome y.taken, span_same w t u size, alike)
