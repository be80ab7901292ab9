-- What is promised of putting back by a table of rules (document 02, "A rule table"): which frames
-- `restore_rules` takes. It is a type, and its proof is in proofs/. This is a definition.
use Rattle.std.specs.Prelude.{List, ◌↔◌, ◌≡◌, ℕ, ◌≤◌, length}
use Rattle.answers.specs.Bytes.{Bytes}
use Rattle.answers.specs.Refusals.{first_of, longest_text}
use Rattle.answers.specs.declared.Answer.{Answer}
use Rattle.rules.specs.Rules.{rules_of, table_size, table_refusals}
use Rattle.rules_conversions.specs.Promises.{Conversion}
use Rattle.restore_rules.specs.RestoreRules.{RestoreRulesOutcome}

-- past 11 and 4 to 7 `restore_rules` is done just where some text of bytes, none of which is
-- claimed twice, converts to the frames, and answers 9 just where none does
unfoldable pub StatusRight : Type 0
StatusRight =
    (x gs text text' : List ℕ) (r : Answer) → length x ≡ table_size → Bytes x → RestoreRulesOutcome x gs text text' r
    → first_of (table_refusals x) ≡ 0 → length gs ≤ longest_text → length gs ≤ length text
    → ((r.status ≡ 0) ↔ Conversion (rules_of x) gs) × ((r.status ≡ 9) ↔ (¬ Conversion (rules_of x) gs))
