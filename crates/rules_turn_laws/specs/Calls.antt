-- What two calls have in common, one with a table and a ring and one with both turned alike: two
-- calls of `search_rules` or `convert_rules`, and of `price_rules`. Each is a type, and its proof
-- is in proofs/. These are definitions.
use Rattle.std.specs.Prelude.{List, ◌≡◌, ℕ, ◌<◌, length, take}
use Rattle.answers.specs.Bytes.{Bytes}
use Rattle.price.specs.Promises.{PriceCall}
use Rattle.turn.specs.Turned.{turned}
use Rattle.turn_laws.specs.Promises.{turned_positions, turned_frames}
use Rattle.rules.specs.Rules.{rules_of, count_of, length_at, table_size, Inside}
use Rattle.convert_rules.specs.Paired.{RulesCall, RulesTaken, SearchesRules, ConvertsRules, AnyRulesSearch, nth}
use Rattle.convert_rules.specs.Paired.{told_by, rule_found_by, RulesLentAsLong}
use Rattle.price_rules.specs.Promises.{PricesRules, RulesPriced}
use Rattle.rules_rotation_laws.specs.Calls.{PriceLentAsLong}
use Rattle.rules_turn_laws.specs.Promises.{turned_rules}

-- x' is a table whose rules are those of the table x, of bytes, turned. Lengths are said apart: the
-- pattern (motif) in the last slot ends with the table, even where its length says more
pub record TableTurned (way : ℕ) (x x' : List ℕ) : Type 0 where
  pub size : length x ≡ table_size
  pub size' : length x' ≡ table_size
  pub bytes : Bytes x
  pub rules : rules_of x' ≡ turned_rules way (rules_of x)
  pub lengths : (i : ℕ) → i < count_of x → length_at x' i ≡ length_at x i

-- of one rule: the occurrences (finds), turned, and their number, the period, the bound, and the
-- mark of a rule that found nothing
pub record RuleAlikeTurned (way : ℕ) (x t : List ℕ) (c d : RulesCall) (i : ℕ) : Type 0 where
  pub occurrences_turned :
      rule_found_by d i ≡ turned_positions way (length (nth x i).pattern) (length t) (rule_found_by c i)
  pub same_number : (told_by d i).occurrences ≡ (told_by c i).occurrences
  pub same_period : (told_by d i).period ≡ (told_by c i).period
  pub same_bound : (told_by d i).bound ≡ (told_by c i).bound
  pub same_unmatched : (told_by d i).unmatched ≡ (told_by c i).unmatched

-- of the calls: this of each rule; of two conversions the n frames, turned, the rules' numbers
-- kept, and the number of ones (holes)
pub record RulesAlikeTurned (way : ℕ) (x x' t : List ℕ) (c d : RulesCall) : Type 0 where
  pub each : (i : ℕ) → i < count_of x → RuleAlikeTurned way x t c d i
  pub frames_turned :
      ConvertsRules x t c → ConvertsRules x' (turned way t) d →
      take (length t) d.left.frames ≡ turned_frames way (take (length t) c.left.frames)
  pub same_ones : ConvertsRules x t c → ConvertsRules x' (turned way t) d → d.answer.ones ≡ c.answer.ones

-- a search and a search with table and ring turned, both taken, have this in common
unfoldable pub RulesSearchesTurned : Type 0
RulesSearchesTurned =
    (way : ℕ) (x x' t : List ℕ) → TableTurned way x x' → Bytes t →
    (c d : RulesCall) → AnyRulesSearch x t c → RulesTaken c → AnyRulesSearch x' (turned way t) d → RulesTaken d →
    RulesAlikeTurned way x x' t c d

-- two calls of `search_rules`, or two of `convert_rules`, one with table and ring turned, with
-- buffers as long, if each hold offset (hold place) is in its pattern: both are taken, or both
-- refused (turned away) with the same status, also by 12
unfoldable pub RulesStatusTurned : Type 0
RulesStatusTurned =
    (way : ℕ) (x x' t : List ℕ) (c d : RulesCall) → TableTurned way x x' → Inside (rules_of x) → Bytes t →
    RulesLentAsLong c d →
    (SearchesRules x t c → SearchesRules x' (turned way t) d → d.answer.status ≡ c.answer.status)
    × (ConvertsRules x t c → ConvertsRules x' (turned way t) d → d.answer.status ≡ c.answer.status)

-- two calls of `price_rules`, both taken, one with table and ring turned: they answer the same
-- pence
unfoldable pub RulesPricesTurned : Type 0
RulesPricesTurned =
    (way : ℕ) (x x' t : List ℕ) (c d : PriceCall) → TableTurned way x x' → Bytes t → RulesPriced x t c →
    RulesPriced x' (turned way t) d → d.answer.pence ≡ c.answer.pence

-- two calls of `price_rules`, one with table and ring turned, with buffers as long, if each hold
-- offset is in its pattern: both are taken, or both refused with the same status, also by 12
unfoldable pub RulesPriceStatusTurned : Type 0
RulesPriceStatusTurned =
    (way : ℕ) (x x' t : List ℕ) (c d : PriceCall) → TableTurned way x x' → Bytes t → Inside (rules_of x) →
    PriceLentAsLong c d → PricesRules x t c → PricesRules x' (turned way t) d →
    d.answer.answer.status ≡ c.answer.answer.status
