-- Of whole calls: the pence are those of the frames that a conversion leaves
-- (`RuleFramesPriced`), and status and buffers are those of a search (`AsBySearchRules`). An
-- outcome is what the definitions give for its status.
use mathlib.Core.List.{List}
use mathlib.Core.Path.{◌≡◌, refl, sym, ◌∙◌, ap}
use Prim.Native.Nat.{ℕ}
use Rattle.answers.specs.Answers.{if_done}
use Rattle.tables.specs.Buffers.{Tables}
use Rattle.price.specs.Promises.{PriceCall}
use Rattle.price.specs.declared.PriceAnswer.{PriceAnswer}
use Rattle.rules.specs.Rules.{Rule, rules_of}
use Rattle.rules_answers.proofs.Answered.{status_answered}
use Rattle.rules_answers.specs.Answers.{rules_done}
use Rattle.search_rules.specs.SearchRules.{search_rules_status_of}
use Rattle.convert_rules.proofs.Converted.{frames_by}
use Rattle.price_rules.specs.PriceRules.{rules_cost, price_rules_answer, PriceRulesOutcomeOf}
use Rattle.price_rules.specs.Promises.{RulesPriced, RuleFramesPriced, AsBySearchRules}

-- a call answers its status
pub status_of :
    {s : ℕ} {rs : List Rule} {t : List ℕ} {lent left : Tables} {found found' : List ℕ} {r : PriceAnswer} →
    PriceRulesOutcomeOf s rs t lent left found found' r → r.answer.status ≡ s
unfolding price_rules_answer
status_of o = ap (λ (a : PriceAnswer). a.answer.status) o.answer

-- a call that is taken has status 0, and answers the cost
module _ (x t : List ℕ) {c : PriceCall} (p : RulesPriced x t c) where
  pub status_0 : search_rules_status_of x t c.lent c.found ≡ 0
  status_0 = sym (status_of p.allowed) ∙ p.taken

  pub pence_by : c.answer.pence ≡ rules_cost (rules_of x) t
  unfolding if_done price_rules_answer
  pence_by = ap (λ (a : PriceAnswer). a.pence) (rw status_0 at p.allowed.answer)

pub rule_frames_priced : RuleFramesPriced
unfolding RuleFramesPriced
rule_frames_priced x t p priced c h e = rw (frames_by x h e) (pence_by x t priced)

pub as_by_search_rules : AsBySearchRules
unfolding AsBySearchRules
as_by_search_rules x t lent left searched found found' listed r a o h = (
  status_of o ∙ sym (status_answered _ (rules_done (rules_of x) t 0) h.answer refl),
  (o.tables ∙ sym h.tables, o.occurrences_left ∙ sym h.occurrences_left),
)
