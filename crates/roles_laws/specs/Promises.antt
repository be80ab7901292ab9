-- What is promised of the five calls behind a role (document 02, "Who may do what"), for all that
-- their contracts allow: each is the call without roles, or refused by 13 with everything as it
-- was. Each is a type, and its proof is in proofs/. These are definitions.
use Rattle.std.specs.Prelude.{List, [], ◌∷◌, ◌≡◌, ℕ, ◌<◌}
use Rattle.answers.specs.Answers.{status_only}
use Rattle.answers.specs.declared.Answer.{Answer}
use Rattle.tables.specs.Buffers.{Tables}
use Rattle.price.specs.Promises.{PriceCall}
use Rattle.explain_answers.specs.Answer.{refused}
use Rattle.explain_answers.specs.declared.ExplainAnswer.{ExplainAnswer}
use Rattle.edit_rule.specs.Edit.{EditOutcome}
use Rattle.rules_answers.specs.Answers.{rules_refused}
use Rattle.convert_rules.specs.Paired.{RulesCall, ConvertsRules}
use Rattle.price_rules.specs.Promises.{PricesRules}
use Rattle.restore_rules.specs.RestoreRules.{RestoreRulesOutcome}
use Rattle.explain_rule.specs.ExplainRule.{ExplainRuleOutcome}
use Rattle.roles.specs.Promises.{Behind}
use Rattle.roles.specs.declared.Job.TheVariants.{Convert, Restore, Explain, Price, Edit}
use Rattle.roles_calls.specs.Calls.{ConvertAsOutcome, RestoreAsOutcome, ExplainAsOutcome}
use Rattle.roles_calls.specs.Calls.{PriceAsOutcome, EditAsOutcome}

-- the contract of `convert_as` allows this call by a role, with the table x for the text (chain) t
abbrev pub ConvertsAs : (role : ℕ) (x t : List ℕ) → RulesCall → Type 0
ConvertsAs role x t c =
    let b = c.lent in
    let b' = c.left in
    ConvertAsOutcome role x t b.tables b'.tables b.found b'.found b.frames b'.frames c.answer

-- converting: refused, the answer is 13 and zeros, and every buffer is as it was
unfoldable pub ConvertBehind : Type 0
ConvertBehind =
    (role : ℕ) (x t : List ℕ) (c : RulesCall) →
    Behind role Convert (ConvertsAs role x t c) (ConvertsRules x t c)
    ((c.answer ≡ rules_refused 13) × (c.left ≡ c.lent)) c.answer.status

-- putting back
unfoldable pub RestoreBehind : Type 0
RestoreBehind =
    (role : ℕ) (x gs text text' : List ℕ) (r : Answer) →
    Behind role Restore (RestoreAsOutcome role x gs text text' r) (RestoreRulesOutcome x gs text text' r)
    ((r ≡ status_only 13) × (text' ≡ text)) r.status

-- explaining
unfoldable pub ExplainBehind : Type 0
ExplainBehind =
    (role number b : ℕ) (x t : List ℕ) (lent left : Tables) (r : ExplainAnswer) →
    Behind role Explain (ExplainAsOutcome role number b x t lent left r)
    (ExplainRuleOutcome number b x t lent left r) ((r ≡ refused 13) × (left ≡ lent)) r.answer.status

-- the contract of `price_as` allows this call
abbrev pub PricesAs : (role : ℕ) (x t : List ℕ) → PriceCall → Type 0
PricesAs role x t c = PriceAsOutcome role x t c.lent c.left c.found c.found' c.answer

-- pricing
unfoldable pub PriceBehind : Type 0
PriceBehind =
    (role : ℕ) (x t : List ℕ) (c : PriceCall) →
    Behind role Price (PricesAs role x t c) (PricesRules x t c)
    ((c.answer ≡ record { answer = status_only 13; pence = 0 }) × ((c.left ≡ c.lent) × (c.found' ≡ c.found)))
    c.answer.answer.status

-- editing: refused, the table is as it was
unfoldable pub EditBehind : Type 0
EditBehind =
    (role number q : ℕ) (w x x' : List ℕ) (r : Answer) →
    Behind role Edit (EditAsOutcome role number q w x x' r) (EditOutcome number q w x x' r)
    ((r ≡ status_only 13) × (x' ≡ x)) r.status

-- a call of `edit_as`: what it is given, the table that it leaves, and its answer
pub record EditCall : Type 0 where
  pub role : ℕ
  pub number : ℕ
  pub hold_offset : ℕ
  pub pattern : List ℕ
  pub left : List ℕ
  pub answer : Answer

-- calls one after another, each by another role than the draughtswoman, on a table x, at the end x'
unfoldable pub EditsByOthers : List EditCall → (x x' : List ℕ) → Type 0
EditsByOthers [] x x' = x' ≡ x
EditsByOthers (c ∷ cs) x x' =
    (0 < c.role)
    × (EditAsOutcome c.role c.number c.hold_offset c.pattern x c.left c.answer
    × EditsByOthers cs c.left x')

-- minders, menders and roles above 2 are kept out of the table: after any such calls it is as it was
unfoldable pub KeptOut : Type 0
KeptOut = (cs : List EditCall) (x x' : List ℕ) → EditsByOthers cs x x' → x' ≡ x
