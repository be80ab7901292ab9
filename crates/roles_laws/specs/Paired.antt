-- Two calls behind roles (document 02, "Who may do what"), for all that their contracts allow: two
-- that are not permitted answer the same, and one that is permitted answers and leaves what the call
-- without roles does. Each is a type, and its proof is in proofs/. These are definitions.
use Rattle.std.specs.Prelude.{true, false, List, ◌≡◌, ℕ}
use Rattle.answers.specs.declared.Answer.{Answer}
use Rattle.tables.specs.Buffers.{Tables}
use Rattle.price.specs.Promises.{PriceCall}
use Rattle.explain_answers.specs.declared.ExplainAnswer.{ExplainAnswer}
use Rattle.edit_rule.specs.Edit.{EditOutcome}
use Rattle.convert_rules.specs.Paired.{RulesCall, ConvertsRules}
use Rattle.price_rules.specs.Promises.{PricesRules}
use Rattle.restore_rules.specs.RestoreRules.{RestoreRulesOutcome}
use Rattle.explain_rule.specs.ExplainRule.{ExplainRuleOutcome}
use Rattle.roles.specs.Roles.{permitted}
use Rattle.roles.specs.declared.Job.{Job}
use Rattle.roles.specs.declared.Job.TheVariants.{Convert, Restore, Explain, Price, Edit}
use Rattle.roles_calls.specs.Calls.{RestoreAsOutcome, ExplainAsOutcome, EditAsOutcome}
use Rattle.roles_laws.specs.Promises.{ConvertsAs, PricesAs}

-- two calls of one job, by roles that may not do it, answer the same
abbrev pub Alike : {R : Type 0} (job : Job) (role role' : ℕ) (As As' : Type 0) (r r' : R) → Type 0
Alike job role role' As As' r r' = permitted role job ≡ false → permitted role' job ≡ false → As → As' → r ≡ r'

-- so do any two calls of each job, whatever their tables, texts (chains), frames, patterns (motifs),
-- numbers and buffers
pub record RefusedAlike : Type 0 where
  pub converting :
      (role role' : ℕ) (x x' t t' : List ℕ) (c c' : RulesCall) →
      Alike Convert role role' (ConvertsAs role x t c) (ConvertsAs role' x' t' c') c.answer c'.answer
  pub restoring :
      (role role' : ℕ) (x x' gs gs' text left text' left' : List ℕ) (r r' : Answer) →
      Alike Restore role role' (RestoreAsOutcome role x gs text left r)
      (RestoreAsOutcome role' x' gs' text' left' r') r r'
  pub explaining :
      (role role' number number' b b' : ℕ) (x x' t t' : List ℕ) (lent left lent' left' : Tables)
      (r r' : ExplainAnswer) →
      Alike Explain role role' (ExplainAsOutcome role number b x t lent left r)
      (ExplainAsOutcome role' number' b' x' t' lent' left' r') r r'
  pub pricing :
      (role role' : ℕ) (x x' t t' : List ℕ) (c c' : PriceCall) →
      Alike Price role role' (PricesAs role x t c) (PricesAs role' x' t' c') c.answer c'.answer
  pub editing :
      (role role' number number' q q' : ℕ) (w w' x y x' y' : List ℕ) (r r' : Answer) →
      Alike Edit role role' (EditAsOutcome role number q w x y r) (EditAsOutcome role' number' q' w' x' y' r') r r'

-- two calls of one job with the same of all these, one by a role that may do it and one without
-- roles, answer and leave the same
pub record SameAsWithout : Type 0 where
  pub converting :
      (role : ℕ) (x t : List ℕ) (c d : RulesCall) → permitted role Convert ≡ true → d.lent ≡ c.lent →
      ConvertsAs role x t c → ConvertsRules x t d → d ≡ c
  pub restoring :
      (role : ℕ) (x gs text left left' : List ℕ) (r r' : Answer) → permitted role Restore ≡ true →
      RestoreAsOutcome role x gs text left r → RestoreRulesOutcome x gs text left' r' → (r' ≡ r) × (left' ≡ left)
  pub explaining :
      (role number b : ℕ) (x t : List ℕ) (lent left left' : Tables) (r r' : ExplainAnswer) →
      permitted role Explain ≡ true → ExplainAsOutcome role number b x t lent left r →
      ExplainRuleOutcome number b x t lent left' r' → (r' ≡ r) × (left' ≡ left)
  pub pricing :
      (role : ℕ) (x t : List ℕ) (c d : PriceCall) → permitted role Price ≡ true → d.lent ≡ c.lent →
      d.found ≡ c.found → PricesAs role x t c → PricesRules x t d → d ≡ c
  pub editing :
      (role number q : ℕ) (w x left left' : List ℕ) (r r' : Answer) → permitted role Edit ≡ true →
      EditAsOutcome role number q w x left r → EditOutcome number q w x left' r' → (r' ≡ r) × (left' ≡ left)
