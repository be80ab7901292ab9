-- What the five calls behind a role answer and leave (document 02, "Who may do what"): each is the
-- call of the same job with a table of rules, of the status behind the role. These are definitions.
use Rattle.std.specs.Prelude.{List, ℕ, length}
use Rattle.answers.specs.declared.Answer.{Answer}
use Rattle.tables.specs.Buffers.{Tables, lengths}
use Rattle.price.specs.declared.PriceAnswer.{PriceAnswer}
use Rattle.explain_answers.specs.declared.ExplainAnswer.{ExplainAnswer}
use Rattle.explain.specs.Explain.{ExplainOutcomeOf}
use Rattle.rules.specs.Rules.{rules_of}
use Rattle.edit_rule.specs.Edit.{edit_status, EditOutcomeOf}
use Rattle.rules_answers.specs.declared.RulesAnswer.{RulesAnswer}
use Rattle.search_rules.specs.SearchRules.{search_rules_status_of}
use Rattle.convert_rules.specs.ConvertRules.{convert_rules_status_of, ConvertRulesOutcomeOf}
use Rattle.price_rules.specs.PriceRules.{PriceRulesOutcomeOf}
use Rattle.restore_rules.specs.RestoreRules.{restore_rules_status, RestoreRulesOutcomeOf}
use Rattle.explain_rule.specs.ExplainRule.{numbered_pattern, explain_rule_status}
use Rattle.roles.specs.Roles.{behind_role}
use Rattle.roles.specs.declared.Job.TheVariants.{Convert, Restore, Explain, Price, Edit}

-- `convert_as`: `convert_rules` behind a role
abbrev pub ConvertAsOutcome :
    (role : ℕ) (image t : List ℕ) (lent left : Tables) (found found' frame frame' : List ℕ) (r : RulesAnswer) → Type 0
ConvertAsOutcome role x t lent left found found' frame frame' r =
    ConvertRulesOutcomeOf (behind_role role Convert (convert_rules_status_of x t lent found frame)) (rules_of x) t
    lent left found found' frame frame' r

-- `restore_as`: `restore_rules` behind a role
abbrev pub RestoreAsOutcome : (role : ℕ) (image frames text text' : List ℕ) (r : Answer) → Type 0
RestoreAsOutcome role x gs text text' r =
    RestoreRulesOutcomeOf (behind_role role Restore (restore_rules_status x gs (length text))) (rules_of x) gs text
    text' r

-- `explain_as`: `explain_rule` behind a role
abbrev pub ExplainAsOutcome :
    (role number b : ℕ) (image t : List ℕ) (lent left : Tables) (r : ExplainAnswer) → Type 0
ExplainAsOutcome role number b x t lent left r =
    ExplainOutcomeOf (behind_role role Explain (explain_rule_status x number (length t) b (lengths lent))) b
    (numbered_pattern x number) t lent left r

-- `price_as`: `price_rules` behind a role
abbrev pub PriceAsOutcome :
    (role : ℕ) (image t : List ℕ) (lent left : Tables) (found found' : List ℕ) (r : PriceAnswer) → Type 0
PriceAsOutcome role x t lent left found found' r =
    PriceRulesOutcomeOf (behind_role role Price (search_rules_status_of x t lent found)) (rules_of x) t lent left
    found found' r

-- `edit_as`: `edit_rule` behind a role
abbrev pub EditAsOutcome : (role number q : ℕ) (w x x' : List ℕ) (r : Answer) → Type 0
EditAsOutcome role number q w x x' r =
    EditOutcomeOf (behind_role role Edit (edit_status x number (length w) q)) number q w x x' r
