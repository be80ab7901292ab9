-- What is promised of putting back (document 02, "Back to cards"): which frames `restore` takes. It is a type, and its proof is in proofs/.
-- This is a definition.
use Rattle.std.specs.Prelude.{List, ◌↔◌, ◌≡◌, ℕ, ◌≤◌, ◌<◌, length}
use Rattle.answers.specs.Bytes.{Bytes}
use Rattle.answers.specs.Refusals.{longest_pattern, longest_text}
use Rattle.answers.specs.declared.Answer.{Answer}
use Rattle.restore_conversions.specs.Promises.{Conversion}
use Rattle.restore.specs.Restore.{RestoreOutcome}

-- past 4 to 7 `restore` is done just where some text of bytes converts to the frames, and answers 9 just where none does
unfoldable pub StatusRight : Type 0
StatusRight =
    (q : ℕ) (w gs text text' : List ℕ) (r : Answer) → Bytes w → RestoreOutcome q w gs text text' r
    → q < length w → length w ≤ longest_pattern → length gs ≤ longest_text → length gs ≤ length text
    → ((r.status ≡ 0) ↔ Conversion q w gs) × ((r.status ≡ 9) ↔ (¬ Conversion q w gs))
