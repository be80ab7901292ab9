-- What two calls with one table have in common, one of a ring and one of the ring started r bytes
-- (cards) later: two calls of `search_rules` or `convert_rules`, and of `price_rules`. Each is a
-- type, and its proof is in proofs/. These are definitions.
use Rattle.std.specs.Prelude.{List, ◌≡◌, ℕ, ◌≤◌, ◌<◌, length, take}
use Rattle.tables.specs.Buffers.{lengths}
use Rattle.price.specs.Promises.{PriceCall}
use Rattle.rotation_laws.specs.Promises.{rotated, rotated_positions}
use Rattle.rules.specs.Rules.{count_of, table_size}
use Rattle.convert_rules.specs.Paired.{RulesCall, RulesTaken, SearchesRules, ConvertsRules, AnyRulesSearch}
use Rattle.convert_rules.specs.Paired.{told_by, rule_found_by, RulesLentAsLong}
use Rattle.price_rules.specs.Promises.{PricesRules, RulesPriced}

-- of one rule: the same occurrences (finds), turned back by r around the ring, again ascending, and
-- as many; the same period and bound, which each count of comparisons (looks) keeps, though these
-- may differ; and the mark of a rule that found nothing
pub record RuleAlikeRotated (r : ℕ) (t : List ℕ) (c d : RulesCall) (i : ℕ) : Type 0 where
  pub occurrences_rotated : rule_found_by d i ≡ rotated_positions (length t) r (rule_found_by c i)
  pub same_number : (told_by d i).occurrences ≡ (told_by c i).occurrences
  pub same_period : (told_by d i).period ≡ (told_by c i).period
  pub same_bound : (told_by d i).bound ≡ (told_by c i).bound
  pub same_unmatched : (told_by d i).unmatched ≡ (told_by c i).unmatched
  pub few : (told_by c i).comparisons ≤ (told_by c i).bound
  pub few_rotated : (told_by d i).comparisons ≤ (told_by d i).bound

-- of the calls: this of each rule; after two conversions the n frames turned alike, the rules'
-- numbers kept, and as many ones (holes)
pub record RulesAlikeRotated (r : ℕ) (x t : List ℕ) (c d : RulesCall) : Type 0 where
  pub each : (i : ℕ) → i < count_of x → RuleAlikeRotated r t c d i
  pub frames_rotated :
      ConvertsRules x t c → ConvertsRules x (rotated r t) d →
      take (length t) d.left.frames ≡ rotated r (take (length t) c.left.frames)
  pub same_ones : ConvertsRules x t c → ConvertsRules x (rotated r t) d → d.answer.ones ≡ c.answer.ones

-- a search of a ring and a search of the ring started r bytes later, r at most n, both taken, with
-- one table, have this in common
unfoldable pub RulesSearchesRotated : Type 0
RulesSearchesRotated =
    (r : ℕ) (x t : List ℕ) → length x ≡ table_size → r ≤ length t →
    (c d : RulesCall) → AnyRulesSearch x t c → RulesTaken c → AnyRulesSearch x (rotated r t) d → RulesTaken d →
    RulesAlikeRotated r x t c d

-- two calls of `search_rules`, or two of `convert_rules`, of a ring and of the ring started r bytes
-- later, with buffers as long: both are taken, or both refused (turned away) with the same status,
-- also by 12
unfoldable pub RulesStatusRotated : Type 0
RulesStatusRotated =
    (r : ℕ) (x t : List ℕ) (c d : RulesCall) → RulesLentAsLong c d →
    (SearchesRules x t c → SearchesRules x (rotated r t) d → d.answer.status ≡ c.answer.status)
    × (ConvertsRules x t c → ConvertsRules x (rotated r t) d → d.answer.status ≡ c.answer.status)

-- two calls of `price_rules`, both taken, of a ring and of the ring started r bytes later: they
-- answer the same pence
unfoldable pub RulesPricesRotated : Type 0
RulesPricesRotated =
    (r : ℕ) (x t : List ℕ) (c d : PriceCall) → RulesPriced x t c → RulesPriced x (rotated r t) d →
    d.answer.pence ≡ c.answer.pence

-- a call d of `price_rules` is lent buffers as long as those of a call c
pub record PriceLentAsLong (c d : PriceCall) : Type 0 where
  pub tables : lengths d.lent ≡ lengths c.lent
  pub found : length d.found ≡ length c.found

-- two calls of `price_rules`, of a ring and of the ring started r bytes later, with buffers as
-- long: both are taken, or both refused with the same status, also by 12
unfoldable pub RulesPriceStatusRotated : Type 0
RulesPriceStatusRotated =
    (r : ℕ) (x t : List ℕ) (c d : PriceCall) → PriceLentAsLong c d → PricesRules x t c →
    PricesRules x (rotated r t) d → d.answer.answer.status ≡ c.answer.answer.status
