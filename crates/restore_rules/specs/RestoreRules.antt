-- What putting frames back by a table of rules answers and leaves in its buffer (document 02, "A
-- rule table"). These are definitions.
use Rattle.std.specs.Prelude.{not, List, [], ◌∷◌, ◌++◌, ◌≡◌, ℕ, length}
use Rattle.answers.specs.Answers.{status_only, if_done}
use Rattle.answers.specs.Buffers.{in_front}
use Rattle.answers.specs.Refusals.{Refusal, refuse, first_of, text_refusal, buffer_refusal}
use Rattle.answers.specs.declared.Answer.{Answer}
use Rattle.rules.specs.Rules.{Rule, rules_of, table_refusals}
use Rattle.rules_conversions.specs.Conversions.{restored, is_conversion}

-- 9: frames that are no conversion by these rules
abbrev pub conversion_refusal : List Rule → (frames : List ℕ) → Refusal
conversion_refusal rs gs = refuse 9 (not (is_conversion rs gs))

-- 11, 4 and 5 of each rule from 1 up, 6, 7; there are n frames, and n entries are needed for the
-- text (chain)
unfoldable pub measured : (image : List ℕ) → (n text_len : ℕ) → List Refusal
measured x n l = table_refusals x ++ (text_refusal n ∷ buffer_refusal l n ∷ [])

-- the status of putting back: these, and then 9
unfoldable pub restore_rules_status : (image frames : List ℕ) → (text_len : ℕ) → ℕ
restore_rules_status x gs l = first_of (measured x (length gs) l ++ (conversion_refusal (rules_of x) gs ∷ []))

-- the text in its buffer after a call of this status
unfoldable pub restored_left : (status : ℕ) → List Rule → (frames text : List ℕ) → List ℕ
restored_left s rs gs text = if_done s (in_front (restored rs gs) text) text

-- what `restore_rules` answers and leaves, of status s; text is the caller's buffer (lent buffer)
-- for the text (chain), text' the same at exit
pub record RestoreRulesOutcomeOf (s : ℕ) (rs : List Rule) (gs text text' : List ℕ) (r : Answer) : Type 0 where
  pub answer : r ≡ status_only s
  pub text_left : text' ≡ restored_left s rs gs text

-- of the status that its conditions give
abbrev pub RestoreRulesOutcome : (image frames text text' : List ℕ) (r : Answer) → Type 0
RestoreRulesOutcome x gs text text' r =
    RestoreRulesOutcomeOf (restore_rules_status x gs (length text)) (rules_of x) gs text text' r
