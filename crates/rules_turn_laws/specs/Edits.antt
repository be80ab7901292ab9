-- How calls turn a rule of a table: `turn` of its pattern (motif) and hold offset (hold place), and
-- `edit_rule` with what that left. `TurnedByEdits` is a type, and its proof is in proofs/. These
-- are definitions.
use Rattle.std.specs.Prelude.{List, ◌≡◌, ℕ, ◌-◌, ◌<◌, length, take, set}
use Rattle.answers.specs.declared.Answer.{Answer}
use Rattle.turn.specs.Turn.{TurnOutcome}
use Rattle.turn.specs.declared.TurnAnswer.{TurnAnswer}
use Rattle.rules.specs.Rules.{Rule, rule_of, rules_of, count_of, length_at, table_size}
use Rattle.edit_rule.specs.Edit.{EditOutcome}
use Rattle.rules_turn_laws.specs.Promises.{turned_rule}

-- x' is the table x with rule k turned: every other rule is as it was, and each slot says the same
-- length
pub record RuleTurned (way k : ℕ) (x x' : List ℕ) : Type 0 where
  pub size : length x' ≡ table_size
  pub rules : rules_of x' ≡ set (rules_of x) (k - 1) (turned_rule way (rule_of (rules_of x) (k - 1)))
  pub lengths : (i : ℕ) → i < count_of x → length_at x' i ≡ length_at x i

-- `turn` of rule k with any text (chain) is done, and so is `edit_rule` of that number with the
-- hold offset that it answered and the pattern that it left: then rule k is turned
unfoldable pub TurnedByEdits : Type 0
TurnedByEdits =
    (way k : ℕ) (x x' t p p' u u' : List ℕ) (r : TurnAnswer) (a : Answer) → length x ≡ table_size →
    let rule : Rule = rule_of (rules_of x) (k - 1) in
    TurnOutcome way rule.hold_offset rule.pattern t p p' u u' r → r.answer.status ≡ 0 →
    EditOutcome k r.q (take (length rule.pattern) p') x x' a → a.status ≡ 0 →
    RuleTurned way k x x'
