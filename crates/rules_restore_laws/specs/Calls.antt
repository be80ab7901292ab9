-- Both round trips by whole calls with a table of rules (document 02, "A rule table"):
-- `convert_rules` and `restore_rules`, one on what the other left; and equal frames of two
-- conversions. Each is a type, and its proof is in proofs/. These are definitions.
use Rattle.std.specs.Prelude.{List, ◌≡◌, ℕ, ◌≤◌, length, take}
use Rattle.answers.specs.Bytes.{Bytes}
use Rattle.answers.specs.declared.Answer.{Answer}
use Rattle.restore_laws.specs.Calls.{RestoredTo, RoomFor, ConvertedTo}
use Rattle.rules.specs.Buffers.{all_needed}
use Rattle.rules.specs.Rules.{rules_of, table_size}
use Rattle.convert_rules.specs.Paired.{RulesCall, RulesTaken, ConvertsRules}
use Rattle.restore_rules.specs.RestoreRules.{RestoreRulesOutcome}

-- `convert_rules` and then `restore_rules` on the frames that it left, with a buffer long enough:
-- for all that their contracts allow, the text (chain) comes back
unfoldable pub CallsConvertedRestored : Type 0
CallsConvertedRestored =
    (x t : List ℕ) (c : RulesCall) → length x ≡ table_size → Bytes t → ConvertsRules x t c → RulesTaken c
    → (text text' : List ℕ) (r : Answer) → RestoreRulesOutcome x (take (length t) c.left.frames) text text' r
    → length t ≤ length text → RestoredTo t text' r

-- two conversions with one table, both taken: where they leave equal frames, their texts are equal
unfoldable pub CallsInjective : Type 0
CallsInjective =
    (x t u : List ℕ) (c d : RulesCall) → length x ≡ table_size → Bytes t → Bytes u
    → ConvertsRules x t c → RulesTaken c → ConvertsRules x u d → RulesTaken d
    → take (length t) c.left.frames ≡ take (length u) d.left.frames → t ≡ u

-- `restore_rules` and then `convert_rules` on the text that it left, with buffers long enough: for
-- all that their contracts allow, the frames handed in come back
unfoldable pub CallsRestoredConverted : Type 0
CallsRestoredConverted =
    (x gs text text' : List ℕ) (r : Answer) → length x ≡ table_size → RestoreRulesOutcome x gs text text' r
    → r.status ≡ 0 → (c : RulesCall) → ConvertsRules x (take (length gs) text') c
    → RoomFor (all_needed (rules_of x)) (length gs) c.lent
    → ConvertedTo gs c.answer.status c.left.frames
