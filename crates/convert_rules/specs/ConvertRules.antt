-- What converting with a table of rules answers and leaves in its buffers (document 02, "A rule
-- table"). These are definitions.
use Rattle.std.specs.Prelude.{List, [], ◌∷◌, ◌≡◌, ℕ, length}
use Rattle.answers.specs.Answers.{if_done}
use Rattle.answers.specs.Buffers.{in_front}
use Rattle.answers.specs.Refusals.{first_of, buffer_refusal}
use Rattle.tables.specs.Buffers.{Tables, lengths}
use Rattle.tables.specs.declared.TableLengths.{TableLengths}
use Rattle.ones.specs.Ones.{ones_of}
use Rattle.rules.specs.Buffers.{all_tables_left}
use Rattle.rules.specs.Rules.{Rule, rules_of}
use Rattle.rules_answers.specs.Answers.{rules_done, rules_answered}
use Rattle.rules_answers.specs.declared.RulesAnswer.{RulesAnswer}
use Rattle.rules_frames.specs.RuleFrames.{rule_frames}
use Rattle.rules_status.specs.Measured.{search_refusals}
use Rattle.search_rules.specs.SearchRules.{all_found_left}

-- the status of converting: 11, 4 and 5 of each rule, 6, 7, 12; n entries each are needed for
-- occurrences (finds) and frames
unfoldable pub convert_rules_status : (image t : List ℕ) → TableLengths → (found_len frames_len : ℕ) → ℕ
convert_rules_status x t l f g =
    first_of (search_refusals x t l (buffer_refusal f (length t) ∷ buffer_refusal g (length t) ∷ []))

-- the frames in their buffer after a call of this status
unfoldable pub rule_frames_left : (status : ℕ) → List Rule → (t frame : List ℕ) → List ℕ
rule_frames_left s rs t frame = if_done s (in_front (rule_frames rs t) frame) frame

-- what `convert_rules` answers and leaves, of status s, by the rules of its table: lent and left
-- are the tables' buffers at entry and at exit, x' is the buffer x at exit
pub record ConvertRulesOutcomeOf
    (s : ℕ) (rs : List Rule) (t : List ℕ) (lent left : Tables) (found found' frame frame' : List ℕ)
    (r : RulesAnswer) : Type 0 where
  pub answer : r ≡ rules_answered s (rules_done rs t (ones_of t))
  pub tables : left ≡ all_tables_left s rs lent
  pub occurrences_left : found' ≡ all_found_left s rs t found
  pub moves_and_holds_left : frame' ≡ rule_frames_left s rs t frame

-- the status of a conversion of t with a table and these buffers
abbrev pub convert_rules_status_of : (image t : List ℕ) (lent : Tables) (found frame : List ℕ) → ℕ
convert_rules_status_of x t lent found frame =
    convert_rules_status x t (lengths lent) (length found) (length frame)

-- what `convert_rules` answers and leaves, of the status that its conditions give
abbrev pub ConvertRulesOutcome :
    (image t : List ℕ) (lent left : Tables) (found found' frame frame' : List ℕ) (r : RulesAnswer) → Type 0
ConvertRulesOutcome x t lent left found found' frame frame' r =
    ConvertRulesOutcomeOf (convert_rules_status_of x t lent found frame) (rules_of x) t lent left found found'
    frame frame' r
