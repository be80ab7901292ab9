-- What is promised of refusal 12 of `convert_rules` (document 02, "A rule table"), as of
-- `search_rules`. Each is a type, and its proof is in proofs/. These are definitions.
use Rattle.std.specs.Prelude.{List, ◌≡◌, ℕ, ◌≤◌, length}
use Rattle.rules.specs.Rules.{rules_of}
use Rattle.rules_claims.specs.Promises.{BothClaim}
use Rattle.search_rules.specs.Promises.{RulesMeasured, ByClaims}
use Rattle.convert_rules.specs.Paired.{RulesCall, ConvertsRules}

-- past all that comes before 12, which is also 7 for n frames, it is done just where no two rules
-- claim one byte (card) of the ring t, and answers 12 just where two do
unfoldable pub ConvertedUnlessClaimed : Type 0
ConvertedUnlessClaimed =
    (x t : List ℕ) (c : RulesCall) → ConvertsRules x t c →
    RulesMeasured x t c.lent.tables c.lent.found → length t ≤ length c.lent.frames →
    ByClaims c.answer.status (rules_of x) t

-- and whatever it is lent, where it answers 12 two rules claim one byte
unfoldable pub ConvertClaimedAt12 : Type 0
ConvertClaimedAt12 =
    (x t : List ℕ) (c : RulesCall) → ConvertsRules x t c → c.answer.status ≡ 12 → BothClaim (rules_of x) t
