-- The worked examples: document 01's ten ("Marked swatches"), its edges and its orders of refusal, and what document 02 adds, as rows of one
-- table, and the common statement that covers them. These are definitions.
use Rattle.std.specs.Prelude.{Bool, true, false, ◌&&◌, cond, List, [], ◌∷◌, ◌++◌, map, ◌≡◌, ℕ, suc, ◌+◌, ◌-◌, ◌*◌, ◌≤◌, ◌<◌, leb, eqb, ℤ, pos, negsuc, length, drop, replicate}
use Prim.Native.Char.{code}
use Prim.Native.String.{String, [] as end, ◌∷◌ as ◌then◌}
use Rattle.answers.specs.Answers.{answered}
use Rattle.answers.specs.Bytes.{Bytes}
use Rattle.answers.specs.Refusals.{first_of}
use Rattle.answers.specs.declared.Answer.{Answer}
use Rattle.job.specs.Job.{job_file, file_status}
use Rattle.job.specs.Read.{read_status, ReadOutcome}
use Rattle.job.specs.Write.{write_status, WriteOutcome}
use Rattle.job.specs.declared.ReadAnswer.{ReadAnswer}
use Rattle.job.specs.declared.WriteAnswer.{WriteAnswer}
use Rattle.tables.specs.Buffers.{Tables, tables, needed}
use Rattle.tables.specs.Least.{least_from}
use Rattle.tables.specs.Prepare.{prepare_status, prepare_done, PrepareOutcome}
use Rattle.tables.specs.Tables.{h_min, r_min, period, stored_order, Δ1, stored_Δ2, Δ3, stored_Δ3}
use Rattle.tables.specs.declared.TableLengths.{TableLengths}
use Rattle.steps.specs.Bound.{search_bound}
use Rattle.steps.specs.Occurrences.{occurrences}
use Rattle.steps.specs.Promises.{SameAt}
use Rattle.steps.specs.Steps.{Comparison, alignments_in, comparisons, listed}
use Rattle.steps.specs.Text.{shown}
use Rattle.search.specs.Search.{search_status, search_done, SearchOutcome}
use Rattle.ones.specs.Ones.{ones_of, count_status, count_answer}
use Rattle.ones.specs.Words.{word_of}
use Rattle.frames.specs.Frames.{with_holds, frames}
use Rattle.convert.specs.Convert.{convert_status, convert_done, ConvertOutcome}
use Rattle.convert.specs.Paired.{Buffers, Call, CallTaken, AnySearch, LentAsLong}
use Rattle.rotation_laws.specs.Promises.{rotated, rotated_positions}
use Rattle.turn.specs.Turn.{turn_status, turn_answer, turned_left, TurnOutcome}
use Rattle.turn.specs.Turned.{turned}
use Rattle.turn.specs.declared.TurnAnswer.{TurnAnswer}
use Rattle.restore_conversions.specs.Restored.{all_restored}
use Rattle.restore_conversions.specs.Walk.{rule_right}
use Rattle.restore.specs.Restore.{restore_status, RestoreOutcome}
use Rattle.price_tariff.specs.Tariff.{rebate, cost}
use Rattle.price.specs.Price.{price_status, job_cost, PriceOutcome}
use Rattle.price.specs.Promises.{PriceCall, Priced}
use Rattle.price.specs.declared.PriceAnswer.{PriceAnswer}
use Rattle.explain_answers.specs.Answer.{explained}
use Rattle.explain_answers.specs.declared.ExplainAnswer.{ExplainAnswer}
use Rattle.explain_answers.specs.declared.Explanation.{Explanation}
use Rattle.explain_answers.specs.declared.Explanation.TheVariants.{Listed, Tried, PassedOver}
use Rattle.explain_answers.specs.declared.ShiftKind.TheVariants.{LastByte, Order, AfterOccurrence, LongRepeat}
use Rattle.explain_meaning.specs.Explanation.{explanation_in}
use Rattle.explain.specs.Explain.{explain_status, ExplainOutcome}
use Rattle.explain_laws.specs.Calls.{Explains}
use Rattle.rules.specs.Buffers.{one_after_another, all_needed}
use Rattle.rules.specs.Rules.{Rule, rules_of, count_of, table_refusals, named_refusals, most_rules, table_size}
use Rattle.edit_rule.specs.Edit.{edit_status, EditOutcome}
use Rattle.rules_claims.specs.Claims.{rule, found_of, claimed_twice}
use Rattle.rules_meet.specs.Meeting.{can_meet}
use Rattle.rules_answers.specs.Answers.{nothing_told, no_answers, all_told}
use Rattle.rules_answers.specs.declared.RuleAnswer.{RuleAnswer}
use Rattle.rules_answers.specs.declared.RulesAnswer.{RulesAnswer}
use Rattle.search_rules.specs.SearchRules.{search_rules_status, SearchRulesOutcome}
use Rattle.rules_frames.specs.RuleFrames.{rule_frames}
use Rattle.convert_rules.specs.ConvertRules.{convert_rules_status, ConvertRulesOutcome}
use Rattle.convert_rules.specs.Paired.{RulesCall, RulesTaken, AnyRulesSearch, RulesLentAsLong}
use Rattle.price_rules.specs.PriceRules.{rules_cost, PriceRulesOutcome}
use Rattle.rules_conversions.specs.Conversions.{restored as restored_by_rules}
use Rattle.restore_rules.specs.RestoreRules.{restore_rules_status, RestoreRulesOutcome}
use Rattle.explain_rule.specs.ExplainRule.{numbered_pattern, explain_rule_status, ExplainRuleOutcome}
use Rattle.price_rules.specs.Promises.{RulesPriced}
use Rattle.rules_one_laws.specs.Calls.{OneRule}
use Rattle.roles.specs.Promises.{Behind}
use Rattle.roles.specs.Roles.{permitted, behind_role}
use Rattle.roles.specs.declared.Job.{Job}
use Rattle.roles.specs.declared.Job.TheVariants.{Convert, Restore, Explain, Price, Edit}
use Rattle.roles_calls.specs.Calls.{ConvertAsOutcome, RestoreAsOutcome, ExplainAsOutcome}
use Rattle.roles_calls.specs.Calls.{PriceAsOutcome, EditAsOutcome}
use Rattle.restore_laws.specs.Calls.{RoomFor}
use Rattle.rules_turn_laws.specs.Calls.{TableTurned}
use Rattle.rules_turn_laws.specs.Promises.{turned_rules}
use Rattle.report_lines.specs.Printed.{report_status}
use Rattle.report_lines.specs.declared.ReportAnswer.{ReportAnswer}
use Rattle.report.specs.Report.{seek_report, ReportOutcome}

-- what a row may claim of a pattern w (motif), a text t (chain), a job file, a list of rules or the
-- image of a rule table
pub data Claim : Type 0 where
  period_is : (w : List ℕ) → (p : ℕ) → Claim
  order_is : (w : List ℕ) → (entries : List ℤ) → Claim
  Δ2_from_2_is : (w : List ℕ) → (entries : List ℕ) → Claim
  Δ1_is : (w : List ℕ) → (c s k : ℕ) → Claim
  stored_Δ3_is : (w : List ℕ) → (entries : List ℕ) → Claim
  occurrences_are : (w t : List ℕ) → (positions : List ℕ) → Claim
  comparisons_are : (w t : List ℕ) → (count : ℕ) → Claim
  comparisons_in_order : (w t : List ℕ) → (made : List Comparison) → Claim
  bound_is : (w t : List ℕ) → (count : ℕ) → Claim
  ones_are : (t : List ℕ) → (count : ℕ) → Claim
  word_is : (bytes : List ℕ) → (word : ℕ) → Claim
  job_file_is : (q : ℕ) → (w t : List ℕ) → (file : String) → Claim
  seek_prints : (file output : String) → Claim
  file_gives : (file : String) → (status : ℕ) → Claim
  job_gives : (m q n : ℕ) → (status : ℕ) → Claim
  reading_gives : (file : String) → (pattern_len text_len : ℕ) → (status : ℕ) → Claim
  writing_gives : (m q n file_len : ℕ) → (status : ℕ) → Claim
  preparing_gives : (m : ℕ) → (lengths : TableLengths) → (status : ℕ) → Claim
  searching_gives : (m n : ℕ) → (lengths : TableLengths) → (found_len : ℕ) → (status : ℕ) → Claim
  converting_gives : (m q n : ℕ) → (lengths : TableLengths) → (found_len frames_len : ℕ) → (status : ℕ) → Claim
  needed_are : (m : ℕ) → (lengths : TableLengths) → Claim
  counting_gives : (n : ℕ) → (status : ℕ) → Claim
  reporting_gives : (report_len out_len : ℕ) → (status : ℕ) → Claim
  answers_are : (given whole : Answer) → Claim
  turned_are : (way : ℕ) → (bytes turned_bytes : List ℕ) → Claim
  frames_are : (q : ℕ) → (w t frames : List ℕ) → Claim
  turning_gives : (way m q n pattern_len text_len : ℕ) → (status : ℕ) → Claim
  turning_leaves : (status way : ℕ) → (bytes buffer left : List ℕ) → Claim
  turn_answers_are : (given whole : TurnAnswer) → Claim
  restored_are : (held frames bytes : List ℕ) → Claim
  marked_are : (frame : ℕ) → (positions frames marked : List ℕ) → Claim
  rule_right_is : (frame q : ℕ) → (w held frames : List ℕ) → (right : Bool) → Claim
  restoring_gives : (q : ℕ) → (w frames : List ℕ) → (text_len : ℕ) → (status : ℕ) → Claim
  restoring_leaves : (q : ℕ) → (w frames text left : List ℕ) → (given : Answer) → Claim
  job_costs : (q : ℕ) → (w t : List ℕ) → (pence : ℕ) → Claim
  frames_cost : (t frames : List ℕ) → (pence : ℕ) → Claim
  rebate_is : (n total : ℕ) → (pence : ℕ) → Claim
  pricing_gives : (m q n : ℕ) → (lengths : TableLengths) → (found_len : ℕ) → (status : ℕ) → Claim
  pricing_leaves : (q : ℕ) → (w t : List ℕ) → (lent left : Tables) → (found listed : List ℕ) → (given : PriceAnswer) → Claim
  preparing_leaves : (w : List ℕ) → (lent left : Tables) → (given : Answer) → Claim
  searching_leaves : (w t : List ℕ) → (lent left : Tables) → (found listed : List ℕ) → (given : Answer) → Claim
  converting_leaves : (q : ℕ) → (w t : List ℕ) → (lent left : Tables) → (found listed frame framed : List ℕ) → (given : Answer) → Claim
  reading_leaves : (file : String) → (pattern pattern_read text text_read : List ℕ) → (given : ReadAnswer) → Claim
  writing_leaves : (q : ℕ) → (w t file written : List ℕ) → (given : WriteAnswer) → Claim
  turning_both_leaves : (way q : ℕ) → (w t pattern pattern_turned text text_turned : List ℕ) → (given : TurnAnswer) → Claim
  reporting_leaves : (file : String) → (out printed : List ℕ) → (given : ReportAnswer) → Claim
  explanation_is : (w t : List ℕ) → (position : ℕ) → (told : Explanation) → Claim
  numbers_are : (told : Explanation) → (given : ExplainAnswer) → Claim
  explaining_gives : (m n position : ℕ) → (lengths : TableLengths) → (status : ℕ) → Claim
  explaining_leaves : (position : ℕ) → (w t : List ℕ) → (lent left : Tables) → (given : ExplainAnswer) → Claim
  rotated_are : (r : ℕ) → (bytes rotated_bytes : List ℕ) → Claim
  rotated_positions_are : (n r : ℕ) → (positions turned_back : List ℕ) → Claim
  both_searched : (r q : ℕ) → (w t : List ℕ) → (first later : Call) → Claim
  alike_where_compared : (w t u : List ℕ) → Claim
  both_paired : (q : ℕ) → (w t u : List ℕ) → (first other : Call) → Claim
  shorthand_is : (w : List ℕ) → (i k : ℕ) → Claim
  shift_loses : (w t : List ℕ) → (b i k lost : ℕ) → Claim
  both_explained : (position : ℕ) → (w t u : List ℕ) → (first other : ExplainAnswer) → Claim
  both_priced : (q : ℕ) → (w t u : List ℕ) → (first other : PriceCall) → Claim
  rules_give : (image : List ℕ) → (status : ℕ) → Claim
  rules_are : (image : List ℕ) → (rules : List Rule) → Claim
  naming_gives : (image : List ℕ) → (number : ℕ) → (status : ℕ) → Claim
  editing_gives : (image : List ℕ) → (number m q : ℕ) → (status : ℕ) → Claim
  editing_leaves : (number q : ℕ) → (w image edited : List ℕ) → (given : Answer) → Claim
  rule_frames_are : (rules : List Rule) → (t frames : List ℕ) → Claim
  rules_found_are : (rules : List Rule) → (t positions : List ℕ) → Claim
  rules_told_are : (rules : List Rule) → (t : List ℕ) → (entries : List RuleAnswer) → Claim
  rules_needed_are : (rules : List Rule) → (lengths : TableLengths) → Claim
  rules_cost_is : (rules : List Rule) → (t : List ℕ) → (pence : ℕ) → Claim
  can_meet_is : (first second : Rule) → (meet : Bool) → Claim
  claimed_twice_is : (rules : List Rule) → (t : List ℕ) → (twice : Bool) → Claim
  searching_rules_gives : (image t : List ℕ) → (lengths : TableLengths) → (found_len : ℕ) → (status : ℕ) → Claim
  converting_rules_gives :
      (image t : List ℕ) → (lengths : TableLengths) → (found_len frames_len : ℕ) → (status : ℕ) → Claim
  searching_rules_leaves :
      (image t : List ℕ) → (lent left : Tables) → (found listed : List ℕ) → (given : RulesAnswer) → Claim
  converting_rules_leaves :
      (image t : List ℕ) → (lent left : Tables) → (found listed frame framed : List ℕ) → (given : RulesAnswer) →
      Claim
  pricing_rules_leaves :
      (image t : List ℕ) → (lent left : Tables) → (found listed : List ℕ) → (given : PriceAnswer) → Claim
  restored_by_rules_are : (rules : List Rule) → (frames bytes : List ℕ) → Claim
  restoring_by_rules_gives : (image frames : List ℕ) → (text_len : ℕ) → (status : ℕ) → Claim
  restoring_by_rules_leaves : (image frames text left : List ℕ) → (given : Answer) → Claim
  explaining_rule_gives : (image : List ℕ) → (number n position : ℕ) → (lengths : TableLengths) → (status : ℕ) → Claim
  explaining_rule_leaves :
      (number position : ℕ) → (image t : List ℕ) → (lent left : Tables) → (given : ExplainAnswer) → Claim
  turned_rules_are : (way : ℕ) → (rules turned_alike : List Rule) → Claim
  both_searched_by_rules : (r : ℕ) → (image t : List ℕ) → (first later : RulesCall) → Claim
  both_paired_by_rule : (number : ℕ) → (image t u : List ℕ) → (first other : RulesCall) → Claim
  both_turned_by_rules : (way : ℕ) → (image turned_image t : List ℕ) → (first other : RulesCall) → Claim
  one_rule_is : (image w : List ℕ) → (q : ℕ) → Claim
  room_for_rules : (rules : List Rule) → (n : ℕ) → (lent : Buffers) → Claim
  priced_by_rules : (image t : List ℕ) → (call : PriceCall) → Claim
  permitted_is : (role : ℕ) → (job : Job) → (may : Bool) → Claim
  behind_role_gives : (role : ℕ) → (job : Job) → (without status : ℕ) → Claim
  stands_behind : (role : ℕ) → (job : Job) → (called without refused : Bool) → (status : ℕ) → Claim
  converting_as_leaves :
      (role : ℕ) → (image t : List ℕ) → (lent left : Tables) → (found listed frame framed : List ℕ) →
      (given : RulesAnswer) → Claim
  restoring_as_leaves : (role : ℕ) → (image frames text left : List ℕ) → (given : Answer) → Claim
  explaining_as_leaves :
      (role number position : ℕ) → (image t : List ℕ) → (lent left : Tables) → (given : ExplainAnswer) → Claim
  pricing_as_leaves :
      (role : ℕ) → (image t : List ℕ) → (lent left : Tables) → (found listed : List ℕ) → (given : PriceAnswer) → Claim
  editing_as_leaves : (role number q : ℕ) → (w image edited : List ℕ) → (given : Answer) → Claim
  refuted : (wrong : Claim) → Claim

-- the bytes of what is written in quotes: each character's code
unfoldable pub bytes : String → List ℕ
bytes end = []
bytes (letter then more) = code letter ∷ bytes more

-- document 01's cards a, c and b
abbrev pub a : ℕ
a = 0x06

abbrev c : ℕ
c = 0x18

abbrev pub b : ℕ
b = 0x01

-- document 002's k'_min(h): the least k of m - p or more with h_min(k) = h and h at least k; else 0
unfoldable pub shorthand_k_min : (w : List ℕ) → (h : ℕ) → ℕ
shorthand_k_min w h =
    let k = least_from (suc (period w)) (length w - period w) (λ k. eqb (h_min w k) h && leb k h) in
    cond (leb k (length w)) k 0

-- its shorthand for Δ3(i): k'_min(i) if that is not 0, else r_min(i)
unfoldable pub shorthand : (w : List ℕ) → (i : ℕ) → ℕ
shorthand w i = let k = shorthand_k_min w i in cond (eqb k 0) (r_min w i) k

-- two texts (rings) show the same byte wherever the search for w in the first compares
abbrev Alike : (w t u : List ℕ) → Type 0
Alike w t u = SameAt (comparisons w t) (shown t) (shown u)

-- what a claim says, each an equation with its definition, or a call's outcome by its equations; a
-- refuted one, that the wrong claim does not hold. The occurrences (finds) are those by meaning, and
-- the steps list the same
unfoldable pub Holds : Claim → Type 0
Holds (period_is w p) = period w ≡ p
Holds (order_is w entries) = stored_order w ≡ entries
Holds (Δ2_from_2_is w entries) = drop 1 (stored_Δ2 w) ≡ entries
Holds (Δ1_is w c s k) = Δ1 w c s ≡ k
Holds (stored_Δ3_is w entries) = stored_Δ3 w ≡ entries
Holds (occurrences_are w t positions) =
    (occurrences w t ≡ positions) × (listed (alignments_in w t) ≡ positions)
Holds (comparisons_are w t count) = length (comparisons w t) ≡ count
Holds (comparisons_in_order w t made) = comparisons w t ≡ made
Holds (bound_is w t count) = search_bound w t ≡ count
Holds (ones_are t count) = ones_of t ≡ count
Holds (word_is bytes word) = word_of bytes ≡ word
Holds (job_file_is q w t file) = job_file q w t ≡ bytes file
Holds (seek_prints file output) = seek_report (bytes file) ≡ bytes output
Holds (file_gives file status) = file_status (bytes file) ≡ status
Holds (job_gives m q n status) = file_status (job_file q (replicate m a) (replicate n a)) ≡ status
Holds (reading_gives file p t status) = read_status (bytes file) p t ≡ status
Holds (writing_gives m q n file status) = write_status m q n file ≡ status
Holds (preparing_gives m l status) = prepare_status m l ≡ status
Holds (searching_gives m n l found status) = search_status m n l found ≡ status
Holds (converting_gives m q n l found frames status) = convert_status m q n l found frames ≡ status
Holds (needed_are m l) = needed m ≡ l
Holds (counting_gives n status) = count_status n ≡ status
Holds (reporting_gives l out status) = report_status l out ≡ status
Holds (answers_are given whole) = given ≡ whole
Holds (turned_are way bytes turned_bytes) = turned way bytes ≡ turned_bytes
Holds (frames_are q w t these) = frames q w t ≡ these
Holds (turning_gives way m q n pattern text status) = turn_status way m q n pattern text ≡ status
Holds (turning_leaves s way bytes buffer left) = turned_left s way bytes buffer ≡ left
Holds (turn_answers_are given whole) = given ≡ whole
Holds (restored_are held these bytes) = all_restored held these ≡ bytes
Holds (marked_are frame positions these marked) = with_holds frame positions these ≡ marked
Holds (rule_right_is frame q w held these right) = rule_right frame q w held these ≡ right
Holds (restoring_gives q w these text status) = restore_status q w these text ≡ status
Holds (restoring_leaves q w these text left given) = RestoreOutcome q w these text left given
Holds (job_costs q w t pence) = job_cost q w t ≡ pence
Holds (frames_cost t gs pence) = cost t gs ≡ pence
Holds (rebate_is n total pence) = rebate n total ≡ pence
Holds (pricing_gives m q n l found status) = price_status m q n l found ≡ status
Holds (pricing_leaves q w t lent left found listed given) = PriceOutcome q w t lent left found listed given
Holds (preparing_leaves w lent left given) = PrepareOutcome w lent left given
Holds (searching_leaves w t lent left found listed given) = SearchOutcome w t lent left found listed given
Holds (converting_leaves q w t lent left found listed frame framed given) = ConvertOutcome q w t lent left found listed frame framed given
Holds (reading_leaves file p p' t t' given) = ReadOutcome (bytes file) p p' t t' given
Holds (writing_leaves q w t file file' given) = WriteOutcome q w t file file' given
Holds (turning_both_leaves way q w t p p' x x' given) = TurnOutcome way q w t p p' x x' given
Holds (reporting_leaves file out out' given) = ReportOutcome (bytes file) out out' given
Holds (explanation_is w t position told) = explanation_in position w t ≡ told
Holds (numbers_are told given) = explained told ≡ given
Holds (explaining_gives m n position l status) = explain_status m n position l ≡ status
Holds (explaining_leaves position w t lent left given) = ExplainOutcome position w t lent left given
Holds (rotated_are r bytes rotated_bytes) = rotated r bytes ≡ rotated_bytes
Holds (rotated_positions_are n r positions turned_back) = rotated_positions n r positions ≡ turned_back
Holds (both_searched r q w t first later) =
    AnySearch q w t first × CallTaken first × AnySearch q w (rotated r t) later × CallTaken later × LentAsLong first later
Holds (alike_where_compared w t u) = Alike w t u
Holds (both_paired q w t u first other) =
    AnySearch q w t first × CallTaken first × AnySearch q w u other × CallTaken other × (length u ≡ length t) × Alike w t u
Holds (shorthand_is w i k) = shorthand w i ≡ k
Holds (shift_loses w t b i k lost) = (explanation_in b w t ≡ Tried i) × (explanation_in lost w t ≡ Listed) × (b < lost) × (lost < b + k)
Holds (both_explained position w t u first other) =
    Explains position w t first × Explains position w u other × (length u ≡ length t) × Alike w t u
Holds (both_priced q w t u first other) = Priced q w t first × Priced q w u other × (length u ≡ length t) × Alike w t u
Holds (rules_give x status) = first_of (table_refusals x) ≡ status
Holds (rules_are x rs) = rules_of x ≡ rs
Holds (naming_gives x number status) = first_of (named_refusals x number) ≡ status
Holds (editing_gives x number m q status) = edit_status x number m q ≡ status
Holds (editing_leaves number q w x x' given) = EditOutcome number q w x x' given
Holds (rule_frames_are rs t these) = rule_frames rs t ≡ these
Holds (rules_found_are rs t positions) = one_after_another (found_of t) rs ≡ positions
Holds (rules_told_are rs t entries) = all_told rs t ≡ entries
Holds (rules_needed_are rs l) = all_needed rs ≡ l
Holds (rules_cost_is rs t pence) = rules_cost rs t ≡ pence
Holds (can_meet_is r s meet) = can_meet r s ≡ meet
Holds (claimed_twice_is rs t twice) = claimed_twice rs t ≡ twice
Holds (searching_rules_gives x t l found status) = search_rules_status x t l found ≡ status
Holds (converting_rules_gives x t l found frames status) = convert_rules_status x t l found frames ≡ status
Holds (searching_rules_leaves x t lent left found listed given) = SearchRulesOutcome x t lent left found listed given
Holds (converting_rules_leaves x t lent left found listed frame framed given) =
    ConvertRulesOutcome x t lent left found listed frame framed given
Holds (pricing_rules_leaves x t lent left found listed given) = PriceRulesOutcome x t lent left found listed given
Holds (restored_by_rules_are rs these bytes) = restored_by_rules rs these ≡ bytes
Holds (restoring_by_rules_gives x these text status) = restore_rules_status x these text ≡ status
Holds (restoring_by_rules_leaves x these text left given) = RestoreRulesOutcome x these text left given
Holds (explaining_rule_gives x number n position l status) = explain_rule_status x number n position l ≡ status
Holds (explaining_rule_leaves number position x t lent left given) =
    ExplainRuleOutcome number position x t lent left given
Holds (turned_rules_are way rs turned_alike) = turned_rules way rs ≡ turned_alike
Holds (both_searched_by_rules r x t first later) =
    (length x ≡ table_size) × (r ≤ length t) × AnyRulesSearch x t first × RulesTaken first
    × AnyRulesSearch x (rotated r t) later × RulesTaken later × RulesLentAsLong first later
Holds (both_paired_by_rule number x t u first other) =
    (length x ≡ table_size) × (number - 1 < count_of x) × AnyRulesSearch x t first × RulesTaken first
    × AnyRulesSearch x u other × RulesTaken other × (length u ≡ length t) × Alike (numbered_pattern x number) t u
Holds (both_turned_by_rules way x x' t first other) =
    TableTurned way x x' × Bytes t × AnyRulesSearch x t first × RulesTaken first
    × AnyRulesSearch x' (turned way t) other × RulesTaken other
Holds (one_rule_is x w q) = OneRule x w q
Holds (room_for_rules rs n b) = RoomFor (all_needed rs) n b
Holds (priced_by_rules x t c) = RulesPriced x t c
Holds (permitted_is role job may) = permitted role job ≡ may
Holds (behind_role_gives role job without status) = behind_role role job without ≡ status
Holds (stands_behind role job called without refused status) =
    Behind role job (called ≡ true) (without ≡ true) (refused ≡ true) status
Holds (converting_as_leaves role x t lent left found listed frame framed given) =
    ConvertAsOutcome role x t lent left found listed frame framed given
Holds (restoring_as_leaves role x these text left given) = RestoreAsOutcome role x these text left given
Holds (explaining_as_leaves role number position x t lent left given) =
    ExplainAsOutcome role number position x t lent left given
Holds (pricing_as_leaves role x t lent left found listed given) = PriceAsOutcome role x t lent left found listed given
Holds (editing_as_leaves role number q w x x' given) = EditAsOutcome role number q w x x' given
Holds (refuted wrong) = Holds wrong → ⊥

-- a row: its number, up to 10 that of document 01, and what it claims
pub record Example : Type 0 where
  pub number : ℕ
  pub claims : List Claim

abbrev row : (number : ℕ) → (claims : List Claim) → Example
row n cs = record { number = n; claims = cs }

-- buffers for the tables of these lengths, and of none
abbrev room : (order delta2 delta1 delta3 : ℕ) → TableLengths
room o d2 d1 d3 = record { order = o; delta2 = d2; delta1 = d1; delta3 = d3 }

abbrev no_room : TableLengths
no_room = room 0 0 0 0

-- a whole call: the buffers that it is lent, what it leaves in them, and its answer
abbrev call : (before after : Buffers) → (given : Answer) → Call
call x x' r = record { lent = x; left = x'; answer = r }

-- its buffers: for tables, finds and frames
abbrev buffers : Tables → (found frames : List ℕ) → Buffers
buffers x found frame = record { tables = x; found = found; frames = frame }

-- an answer by its fields: the number, the finds, the looks, the holes, p and the bound
abbrev answer : (status h C ones p bound : ℕ) → Answer
answer s h C o p most = record { status = s; occurrences = h; comparisons = C; ones = o; period = p; bound = most }

-- an answer with zeros beside its number
abbrev zeros_beside : (status : ℕ) → Answer
zeros_beside s = answer s 0 0 0 0 0

-- the same with the turned q
abbrev turn_answered : (status q : ℕ) → TurnAnswer
turn_answered s q = record { answer = zeros_beside s; q = q }

-- the same with the pence
abbrev price_answered : (status pence : ℕ) → PriceAnswer
price_answered s p = record { answer = zeros_beside s; pence = p }

-- the same with m, q and n, with the file's length, and with the report's
abbrev read_answered : (status m q n : ℕ) → ReadAnswer
read_answered s m q n = record { answer = zeros_beside s; m = m; q = q; n = n }

abbrev write_answered : (status bytes : ℕ) → WriteAnswer
write_answered s l = record { answer = zeros_beside s; bytes = l }

abbrev report_answered : (status bytes : ℕ) → ReportAnswer
report_answered s l = record { answer = zeros_beside s; bytes = l }

-- the same with what is told of a place: 1 listed, 2 tried, 3 passed over, the motif place, the place shifted from, and the kind
abbrev explain_answered : (status outcome place from kind : ℕ) → ExplainAnswer
explain_answered s o p f k = record { answer = zeros_beside s; outcome = o; place = p; from = f; kind = k }

-- buffers for the tables of these lengths before a call
abbrev lent : TableLengths → Tables
lent l = tables (replicate l.order (pos 9)) (replicate l.delta2 9) (replicate l.delta1 9) (replicate l.delta3 9)

-- those for a pattern of one byte, and one entry more in each: before a call, and with its tables
abbrev lent_to_one : Tables
lent_to_one = lent (room 3 3 257 2)

abbrev left_by_one : Tables
left_by_one = tables (pos 0 ∷ negsuc 0 ∷ pos 9 ∷ []) (0 ∷ 1 ∷ 9 ∷ []) (replicate 256 1 ++ (9 ∷ [])) (0 ∷ 9 ∷ [])

-- the same with the tables of a c, and of a c a c a c, which repeats
abbrev pub left_by_ac : Tables
left_by_ac =
    tables (pos 1 ∷ pos 0 ∷ negsuc 0 ∷ pos 9 ∷ []) (0 ∷ 2 ∷ 2 ∷ 9 ∷ []) (replicate 12 2 ++ (1 ∷ 1 ∷ []) ++ replicate 498 2 ++ (9 ∷ []))
    (0 ∷ 0 ∷ 9 ∷ [])

abbrev left_by_acacac : Tables
left_by_acacac =
    tables (pos 5 ∷ pos 0 ∷ pos 1 ∷ pos 2 ∷ pos 3 ∷ pos 4 ∷ negsuc 0 ∷ pos 9 ∷ []) (0 ∷ 2 ∷ 2 ∷ 4 ∷ 4 ∷ 6 ∷ 2 ∷ 9 ∷ [])
    (replicate 36 6 ++ (5 ∷ 5 ∷ 3 ∷ 3 ∷ 1 ∷ 1 ∷ []) ++ replicate 102 6 ++ replicate 6 2 ++ replicate 1386 6 ++ (9 ∷ []))
    (0 ∷ 0 ∷ 0 ∷ 0 ∷ 6 ∷ 0 ∷ 9 ∷ [])

abbrev aacaa : List ℕ
aacaa = a ∷ a ∷ c ∷ a ∷ a ∷ []

abbrev cbaaa : List ℕ
cbaaa = c ∷ b ∷ a ∷ a ∷ a ∷ []

abbrev aabbaaa : List ℕ
aabbaaa = a ∷ a ∷ b ∷ b ∷ a ∷ a ∷ a ∷ []

abbrev cac : List ℕ
cac = c ∷ a ∷ c ∷ []

abbrev acaca : List ℕ
acaca = a ∷ c ∷ a ∷ c ∷ a ∷ []

abbrev aaaa : List ℕ
aaaa = a ∷ a ∷ a ∷ a ∷ []

abbrev aac : List ℕ
aac = a ∷ a ∷ c ∷ []

abbrev bac : List ℕ
bac = b ∷ a ∷ c ∷ []

-- a pattern with m = 3 × p
abbrev acacac : List ℕ
acacac = a ∷ c ∷ a ∷ c ∷ a ∷ c ∷ []

-- document 02's pattern that repeats, and a text of two copies that share a byte
abbrev aacaacaacaa : List ℕ
aacaacaacaa = aac ++ aac ++ aac ++ (a ∷ a ∷ [])

abbrev two_sharing_one : List ℕ
two_sharing_one = aac ++ aac ++ aac ++ (a ∷ aacaacaacaa)

-- patterns that repeat: one in which the shift out of a repeat matters to the next first comparison that differs, and one of period 4
abbrev acaacaacaac : List ℕ
acaacaacaac = a ∷ c ∷ a ∷ a ∷ c ∷ a ∷ a ∷ c ∷ a ∷ a ∷ c ∷ []

abbrev accaaccaaccaacc : List ℕ
accaaccaaccaacc = (a ∷ c ∷ c ∷ a ∷ []) ++ (a ∷ c ∷ c ∷ a ∷ []) ++ (a ∷ c ∷ c ∷ a ∷ []) ++ (a ∷ c ∷ c ∷ [])

-- a search of a a c for a c, and one that is refused, with no room for its finds
abbrev searched_aac : Call
searched_aac =
    call (buffers (lent (room 4 4 513 3)) (replicate 4 9) []) (buffers left_by_ac (1 ∷ 9 ∷ 9 ∷ 9 ∷ []) []) (answer 0 1 3 0 2 6)

abbrev refused_call : Call
refused_call = call (buffers left_by_ac [] []) (buffers left_by_ac [] []) (zeros_beside 7)

-- a call of `price` for the same
abbrev priced_aac : (pence : ℕ) → PriceCall
priced_aac p =
    record { lent = lent (room 4 4 513 3); left = left_by_ac; found = replicate 3 9; found' = 1 ∷ 9 ∷ 9 ∷ []; answer = price_answered 0 p }

-- a comparison (look), by its pattern position (motif place) and its text position (chain place)
abbrev pair : (i x : ℕ) → Comparison
pair i x = record { pattern_position = i; text_position = x }

-- the listing of "What SEEK prints": its text (chain), the job file, and what is printed
abbrev listing : List ℕ
listing = a ∷ a ∷ c ∷ a ∷ a ∷ a ∷ c ∷ a ∷ a ∷ []

-- its frames
abbrev listing_frames : List ℕ
listing_frames = a ∷ a ∷ 256 ∷ a ∷ a ∷ a ∷ 256 ∷ a ∷ a ∷ []

abbrev listing_file : String
listing_file = "0105020009\n06\n06\n18\n06\n06\n06\n06\n18\n06\n06\n06\n18\n06\n06\n"

abbrev listing_printed : String
listing_printed = "0002\n0000000D\n00000012\n0003\n00000015\n0000\n0004\n0006\n0006\n0100\n0006\n0006\n0006\n0100\n0006\n0006\n"

-- a rule's slot: length, hold offset, pattern, and zeros up to 128 bytes
abbrev slot_of : Rule → List ℕ
slot_of r = length r.pattern ∷ r.hold_offset ∷ r.pattern ++ replicate (128 - length r.pattern) 0

-- the image of a table, with zeros in the slots past the last rule
abbrev table : List Rule → List ℕ
table rs = length rs ∷ one_after_another slot_of rs ++ replicate (130 * (most_rules - length rs)) 0

-- what is told of a rule, and of a table: these entries, and zeros past them
abbrev told : (h C p bound unmatched : ℕ) → RuleAnswer
told h C p most none = record { occurrences = h; comparisons = C; period = p; bound = most; unmatched = none }

abbrev and_nothing : List RuleAnswer → List RuleAnswer
and_nothing entries = entries ++ replicate (most_rules - length entries) nothing_told

abbrev rules_answer : (ones : ℕ) → List RuleAnswer → RulesAnswer
rules_answer o entries = record { status = 0; ones = o; rules = and_nothing entries }

-- zeros beside a number
abbrev rules_refused : (status : ℕ) → RulesAnswer
rules_refused s = record { status = s; ones = 0; rules = no_answers }

-- a whole call with a table
abbrev rules_call : (before after : Buffers) → (given : RulesAnswer) → RulesCall
rules_call x x' r = record { lent = x; left = x'; answer = r }

-- two rules of one byte, for a and for c, and one rule twice
abbrev a_and_c : List Rule
a_and_c = rule (a ∷ []) 0 ∷ rule (c ∷ []) 0 ∷ []

abbrev a_twice : List Rule
a_twice = rule (a ∷ []) 0 ∷ rule (a ∷ []) 0 ∷ []

-- buffers for the tables of two patterns of one byte, and one entry more in each: before a call,
-- and with these tables
abbrev lent_to_two : Tables
lent_to_two = lent (room 5 5 513 3)

abbrev left_by_two : Tables
left_by_two =
    tables (pos 0 ∷ negsuc 0 ∷ pos 0 ∷ negsuc 0 ∷ pos 9 ∷ []) (0 ∷ 1 ∷ 0 ∷ 1 ∷ 9 ∷ []) (replicate 512 1 ++ (9 ∷ []))
    (0 ∷ 0 ∷ 9 ∷ [])

-- 16 rules, that of number k with the byte k alone
abbrev sixteen : List Rule
sixteen = map (λ k. rule (k ∷ []) 0) (1 ∷ 2 ∷ 3 ∷ 4 ∷ 5 ∷ 6 ∷ 7 ∷ 8 ∷ 9 ∷ 10 ∷ 11 ∷ 12 ∷ 13 ∷ 14 ∷ 15 ∷ 16 ∷ [])

-- three rules for the listing: the second is not in it
abbrev three_rules : List Rule
three_rules = rule aacaa 2 ∷ rule (b ∷ []) 0 ∷ rule (a ∷ c ∷ []) 0 ∷ []

-- the rules of README's example, with this third one
abbrev third : (w : List ℕ) → (q : ℕ) → List Rule
third w q = rule aacaa 2 ∷ rule (a ∷ a ∷ a ∷ []) 1 ∷ rule w q ∷ []

-- two rules, for a c and for b, and their tables
abbrev ac_and_b : List Rule
ac_and_b = rule (a ∷ c ∷ []) 1 ∷ rule (b ∷ []) 0 ∷ []

abbrev left_by_ac_and_b : Tables
left_by_ac_and_b =
    tables (pos 1 ∷ pos 0 ∷ negsuc 0 ∷ pos 0 ∷ negsuc 0 ∷ []) (0 ∷ 2 ∷ 2 ∷ 0 ∷ 1 ∷ [])
    (replicate 12 2 ++ (1 ∷ 1 ∷ []) ++ replicate 498 2 ++ replicate 256 1) (0 ∷ 0 ∷ 0 ∷ [])

-- a search of a a c with them
abbrev searched_by_ac_and_b : RulesCall
searched_by_ac_and_b =
    rules_call (buffers (lent (room 5 5 768 3)) (replicate 3 9) []) (buffers left_by_ac_and_b (1 ∷ 9 ∷ 9 ∷ []) [])
    (rules_answer 0 (told 1 3 2 6 0 ∷ told 0 3 1 5 1 ∷ []))

-- these rules turned in way 3, and their tables
abbrev ac_and_b_turned : List Rule
ac_and_b_turned = rule (0x18 ∷ 0x60 ∷ []) 0 ∷ rule (0x80 ∷ []) 0 ∷ []

abbrev left_by_ac_and_b_turned : Tables
left_by_ac_and_b_turned =
    tables (pos 1 ∷ pos 0 ∷ negsuc 0 ∷ pos 0 ∷ negsuc 0 ∷ []) (0 ∷ 2 ∷ 2 ∷ 0 ∷ 1 ∷ [])
    (replicate 48 2 ++ (1 ∷ 1 ∷ []) ++ replicate 462 2 ++ replicate 256 1) (0 ∷ 0 ∷ 0 ∷ [])

-- a price of a a c by these rules
abbrev priced_by_ac_and_b : (pence : ℕ) → PriceCall
priced_by_ac_and_b pence =
    record {
      lent = lent (room 5 5 768 3);
      left = left_by_ac_and_b;
      found = replicate 3 9;
      found' = 1 ∷ 9 ∷ 9 ∷ [];
      answer = price_answered 0 pence;
    }

-- the table; above each row stands document 01's line, or document 02's
unfoldable pub examples : List Example
examples =
    -- 1. a a c a a: p 3; order 4, 3, 0, 1, 2, -1; Δ2 from i = 2: 1, 3, 3, 3, 3
    row 1
    (period_is aacaa 3
    ∷ order_is aacaa (pos 4 ∷ pos 3 ∷ pos 0 ∷ pos 1 ∷ pos 2 ∷ negsuc 0 ∷ [])
    ∷ Δ2_from_2_is aacaa (1 ∷ 3 ∷ 3 ∷ 3 ∷ 3 ∷ [])
    ∷ [])
    -- 2. c b a a a: p 5; order 4, 2, 3, 0, 1, -1; Δ2 from i = 2, by document 02, "The longest honest step": 1, 5, 5, 5, 5
    ∷ row 2
    (period_is cbaaa 5
    ∷ order_is cbaaa (pos 4 ∷ pos 2 ∷ pos 3 ∷ pos 0 ∷ pos 1 ∷ negsuc 0 ∷ [])
    ∷ Δ2_from_2_is cbaaa (1 ∷ 5 ∷ 5 ∷ 5 ∷ 5 ∷ [])
    ∷ [])
    -- 3. a a c a a: Δ1(c, 1) = 2, Δ1(c, 2) = 5, Δ1(c, 5) = 2
    ∷ row 3 (Δ1_is aacaa c 1 2 ∷ Δ1_is aacaa c 2 5 ∷ Δ1_is aacaa c 5 2 ∷ [])
    -- 4. The listing above: finds 0 and 4. Document 02: its line of p is 0003, and by "Chains are laced into a ring" C is 0000000D and the bound 00000015
    ∷ row 4
    (job_file_is 2 aacaa listing listing_file
    ∷ seek_prints listing_file listing_printed
    ∷ occurrences_are aacaa listing (0 ∷ 4 ∷ [])
    ∷ comparisons_are aacaa listing 13
    ∷ bound_is aacaa listing 21
    ∷ [])
    -- 5. Motif a a c a a, empty chain: no finds, C 0
    ∷ row 5 (occurrences_are aacaa [] [] ∷ comparisons_are aacaa [] 0 ∷ [])
    -- 6. Motif a, chain a: find 0, C 1
    ∷ row 6 (occurrences_are (a ∷ []) (a ∷ []) (0 ∷ []) ∷ comparisons_are (a ∷ []) (a ∷ []) 1 ∷ [])
    -- 7. Motif a a a a, chain of six a: by document 02, "Chains are laced into a ring", finds 0 to 5 and C 9
    ∷ row 7
    (occurrences_are aaaa (replicate 6 a) (0 ∷ 1 ∷ 2 ∷ 3 ∷ 4 ∷ 5 ∷ [])
    ∷ comparisons_are aaaa (replicate 6 a) 9
    ∷ [])
    -- 8. Motif a, chain a c a: finds 0 and 2, C 3
    ∷ row 8
    (occurrences_are (a ∷ []) (a ∷ c ∷ a ∷ []) (0 ∷ 2 ∷ [])
    ∷ comparisons_are (a ∷ []) (a ∷ c ∷ a ∷ []) 3
    ∷ [])
    -- 9. Motif a a, chain a: by document 02, "Chains are laced into a ring", find 0 and C 2
    ∷ row 9 (occurrences_are (a ∷ a ∷ []) (a ∷ []) (0 ∷ []) ∷ comparisons_are (a ∷ a ∷ []) (a ∷ []) 2 ∷ [])
    -- 10. Chain FF 00: 8 holes
    ∷ row 10 (ones_are (0xFF ∷ 0x00 ∷ []) 8 ∷ [])
    -- Edges: m 128 taken, 129 gives 4; m 0 with q 0 gives 4
    ∷ row 11
    (job_gives 128 0 0 0
    ∷ file_gives "0181000000\n" 4
    ∷ file_gives "0100000000\n" 4
    ∷ writing_gives 128 0 0 395 0
    ∷ writing_gives 129 0 0 398 4
    ∷ writing_gives 0 0 0 11 4
    ∷ preparing_gives 128 (needed 128) 0
    ∷ preparing_gives 129 (needed 129) 4
    ∷ preparing_gives 0 (needed 0) 4
    ∷ searching_gives 128 0 (needed 128) 0 0
    ∷ searching_gives 129 0 (needed 129) 0 4
    ∷ searching_gives 0 0 (needed 0) 0 4
    ∷ converting_gives 128 0 0 (needed 128) 0 0 0
    ∷ converting_gives 129 0 0 (needed 129) 0 0 4
    ∷ converting_gives 0 0 0 (needed 0) 0 0 4
    ∷ [])
    -- q = m - 1 taken, q = m gives 5
    ∷ row 12
    (job_gives 5 4 0 0
    ∷ file_gives "0105050000\n" 5
    ∷ writing_gives 5 4 0 26 0
    ∷ writing_gives 5 5 0 26 5
    ∷ converting_gives 5 4 0 (needed 5) 0 0 0
    ∷ converting_gives 5 5 0 (needed 5) 0 0 5
    ∷ [])
    -- n 16,384 taken, 16,385 gives 6
    ∷ row 13
    (job_gives 1 0 16384 0
    ∷ file_gives "0101004001\n" 6
    ∷ writing_gives 1 0 16384 49166 0
    ∷ writing_gives 1 0 16385 49169 6
    ∷ searching_gives 1 16384 (needed 1) 16384 0
    ∷ searching_gives 1 16385 (needed 1) 16385 6
    ∷ converting_gives 1 0 16384 (needed 1) 16384 16384 0
    ∷ converting_gives 1 0 16385 (needed 1) 16385 16385 6
    ∷ counting_gives 16384 0
    ∷ counting_gives 16385 6
    ∷ [])
    -- Order for a file: 1 (under 11 bytes), 2 in the first line, 3, 4, 5, 6, 1 (length), 2 in the rest, 7. Each file that is refused
    -- meets the next condition of the order too, but for those with a wrong line end and those refused by 7
    ∷ row 14
    (file_gives "010G000000" 1
    ∷ file_gives "020G000000\n" 2
    ∷ file_gives "0101000000-" 2
    ∷ file_gives "0200000000\n" 3
    ∷ file_gives "0100000000\n" 4
    ∷ file_gives "0101014001\n" 5
    ∷ file_gives "0101004001\n" 6
    ∷ file_gives "0101000000\n0g" 1
    ∷ reading_gives "0101000000\n0a\n" 0 0 2
    ∷ reading_gives "0101000000\n0A-" 0 0 2
    ∷ reading_gives "0101000000\n0A\n" 0 0 7
    ∷ reading_gives "0101000000\n0A\n" 1 0 0
    ∷ reading_gives "0101000001\n0A\n0B\n" 1 0 7
    ∷ reading_gives "0101000001\n0A\n0B\n" 1 1 0
    ∷ [])
    -- For a call with slices: 4, 5, 6, 7, as far as it takes these things; 7 for each buffer that is too short
    ∷ row 15
    (writing_gives 0 0 16385 0 4
    ∷ writing_gives 1 1 16385 0 5
    ∷ writing_gives 1 0 16385 0 6
    ∷ writing_gives 1 0 0 13 7
    ∷ preparing_gives 0 no_room 4
    ∷ preparing_gives 1 no_room 7
    ∷ searching_gives 0 16385 no_room 0 4
    ∷ searching_gives 1 16385 no_room 0 6
    ∷ searching_gives 1 1 no_room 1 7
    ∷ searching_gives 1 1 (needed 1) 0 7
    ∷ converting_gives 0 0 16385 no_room 0 0 4
    ∷ converting_gives 1 1 16385 no_room 0 0 5
    ∷ converting_gives 1 0 16385 no_room 0 0 6
    ∷ converting_gives 1 0 1 no_room 1 1 7
    ∷ converting_gives 1 0 1 (needed 1) 0 1 7
    ∷ converting_gives 1 0 1 (needed 1) 1 0 7
    ∷ seek_prints "0101010000\n" "FF05\n"
    ∷ reporting_gives 5 4 7
    ∷ reporting_gives 5 5 0
    ∷ [])
    -- Needed: m + 1 entries each for order and Δ2, 256 × m for Δ1; document 02: m for Δ3
    ∷ row 16
    (needed_are 1 (room 2 2 256 1)
    ∷ preparing_gives 1 (room 1 2 256 1) 7
    ∷ preparing_gives 1 (room 2 1 256 1) 7
    ∷ preparing_gives 1 (room 2 2 255 1) 7
    ∷ preparing_gives 1 (room 2 2 256 0) 7
    ∷ preparing_gives 1 (room 2 2 256 1) 0
    ∷ [])
    -- What a call does not work out is 0: of finds, looks and holes preparing works out none, searching h and C, converting all three, counting only
    -- the holes. Turned away, an answer holds the refusal and zeros elsewhere
    ∷ row 17
    (answers_are (answered 0 (prepare_done aacaa)) (answer 0 0 0 0 3 0)
    ∷ answers_are (answered 0 (search_done aacaa listing)) (answer 0 2 13 0 3 21)
    ∷ answers_are (answered 0 (convert_done aacaa listing)) (answer 0 2 13 18 3 21)
    ∷ answers_are (count_answer (0xFF ∷ 0x00 ∷ [])) (answer 0 0 0 8 0 0)
    ∷ answers_are (answered 7 (convert_done aacaa listing)) (zeros_beside 7)
    ∷ [])
    -- Document 02, "Mirrored edges": 0 as drawn, 1 cards mirrored, 2 order of cards reversed, 3 both; turning the order moves q to m - 1 - q
    ∷ row 18
    (turned_are 0 (b ∷ a ∷ c ∷ []) (b ∷ a ∷ c ∷ [])
    ∷ turned_are 1 (b ∷ a ∷ c ∷ []) (0x80 ∷ 0x60 ∷ c ∷ [])
    ∷ turned_are 2 (b ∷ a ∷ c ∷ []) (c ∷ a ∷ b ∷ [])
    ∷ turned_are 3 (b ∷ a ∷ c ∷ []) (c ∷ 0x60 ∷ 0x80 ∷ [])
    ∷ turn_answers_are (turn_answer 0 0 4 1) (turn_answered 0 1)
    ∷ turn_answers_are (turn_answer 0 1 4 1) (turn_answered 0 1)
    ∷ turn_answers_are (turn_answer 0 2 4 1) (turn_answered 0 2)
    ∷ turn_answers_are (turn_answer 0 3 4 1) (turn_answered 0 2)
    ∷ turn_answers_are (turn_answer 8 3 4 1) (turn_answered 8 0)
    ∷ [])
    -- A motif and chain turned alike have the same finds for ways 0 and 1, and n - m - b modulo n for each find b for ways 2 and 3, ascending again,
    -- also over the seam and for n below m
    ∷ row 19
    (occurrences_are aac listing (0 ∷ 4 ∷ [])
    ∷ occurrences_are (turned 1 aac) (turned 1 listing) (0 ∷ 4 ∷ [])
    ∷ occurrences_are (turned 2 aac) (turned 2 listing) (2 ∷ 6 ∷ [])
    ∷ occurrences_are (turned 3 aac) (turned 3 listing) (2 ∷ 6 ∷ [])
    ∷ frames_are 0 aac listing (256 ∷ a ∷ c ∷ a ∷ 256 ∷ a ∷ c ∷ a ∷ a ∷ [])
    ∷ frames_are 2 (turned 3 aac) (turned 3 listing) (0x60 ∷ 0x60 ∷ c ∷ 0x60 ∷ 256 ∷ 0x60 ∷ c ∷ 0x60 ∷ 256 ∷ [])
    ∷ occurrences_are (a ∷ c ∷ []) (c ∷ c ∷ a ∷ c ∷ a ∷ []) (2 ∷ 4 ∷ [])
    ∷ occurrences_are (turned 2 (a ∷ c ∷ [])) (turned 2 (c ∷ c ∷ a ∷ c ∷ a ∷ [])) (1 ∷ 4 ∷ [])
    ∷ occurrences_are aacaa aac (0 ∷ [])
    ∷ occurrences_are (turned 2 aacaa) (turned 2 aac) (1 ∷ [])
    ∷ [])
    -- The turned motif and chain go into buffers of m and n entries, under 7. Turned away: 8, a way above 3, tested before all else
    ∷ row 20
    (turning_gives 0 1 0 1 1 1 0
    ∷ turning_gives 1 1 0 1 1 1 0
    ∷ turning_gives 2 1 0 1 1 1 0
    ∷ turning_gives 3 128 127 16384 128 16384 0
    ∷ turning_gives 4 1 0 1 1 1 8
    ∷ turning_gives 256 1 0 1 1 1 8
    ∷ turning_gives 4294967295 1 0 1 1 1 8
    ∷ turning_gives 4 0 0 16385 0 0 8
    ∷ turning_gives 3 0 0 16385 0 0 4
    ∷ turning_gives 3 129 0 0 129 0 4
    ∷ turning_gives 0 1 1 16385 0 0 5
    ∷ turning_gives 1 1 1 16385 0 0 5
    ∷ turning_gives 3 1 1 16385 0 0 5
    ∷ turning_gives 3 1 0 16385 0 0 6
    ∷ turning_gives 3 1 0 1 0 1 7
    ∷ turning_gives 3 1 0 1 1 0 7
    ∷ turning_leaves 0 2 (b ∷ a ∷ []) (1 ∷ 2 ∷ 3 ∷ []) (a ∷ b ∷ 3 ∷ [])
    ∷ turning_leaves 8 2 (b ∷ a ∷ []) (1 ∷ 2 ∷ 3 ∷ []) (1 ∷ 2 ∷ 3 ∷ [])
    ∷ [])
    -- Document 02, "Back to cards": each hold becomes card w(q) again and each move its card. What is put back converts to the frames handed in.
    -- The answer has zeros beside its number, and what is past n in the buffer stays. 256 × k becomes what rule k holds, and what is no frame stays;
    -- of each rule by its own number it is told whether its holds are right
    ∷ row 21
    (frames_are 2 aacaa listing listing_frames
    ∷ restoring_leaves 2 aacaa listing_frames (replicate 10 1) (a ∷ a ∷ c ∷ a ∷ a ∷ a ∷ c ∷ a ∷ a ∷ 1 ∷ []) (zeros_beside 0)
    ∷ restoring_leaves 1 aaaa (replicate 6 256) (replicate 6 1) (replicate 6 a) (zeros_beside 0)
    ∷ restoring_leaves 0 (c ∷ []) (0xFF ∷ 0 ∷ 256 ∷ []) (replicate 3 1) (0xFF ∷ 0 ∷ c ∷ []) (zeros_beside 0)
    ∷ restoring_leaves 0 aac [] (1 ∷ []) (1 ∷ []) (zeros_beside 0)
    ∷ restoring_gives 3 aaaa (replicate 4 256) 4 0
    ∷ restoring_gives 0 aaaa (a ∷ c ∷ a ∷ a ∷ []) 4 0
    ∷ restoring_gives 1 (a ∷ a ∷ []) (256 ∷ []) 1 0
    ∷ restored_are (a ∷ c ∷ []) (0xFF ∷ 512 ∷ 0 ∷ 256 ∷ []) (0xFF ∷ c ∷ 0 ∷ a ∷ [])
    ∷ restored_are (a ∷ c ∷ []) (257 ∷ 513 ∷ 768 ∷ 65535 ∷ []) (257 ∷ 513 ∷ 768 ∷ 65535 ∷ [])
    ∷ restored_are (a ∷ c ∷ b ∷ []) (768 ∷ []) (b ∷ [])
    ∷ marked_are 512 (2 ∷ 0 ∷ []) (a ∷ b ∷ c ∷ []) (512 ∷ b ∷ 512 ∷ [])
    ∷ rule_right_is 256 0 (a ∷ b ∷ []) (a ∷ c ∷ []) (256 ∷ b ∷ 512 ∷ b ∷ []) true
    ∷ rule_right_is 512 0 (c ∷ b ∷ []) (a ∷ c ∷ []) (256 ∷ b ∷ 512 ∷ b ∷ []) true
    ∷ rule_right_is 512 0 (c ∷ b ∷ []) (a ∷ c ∷ []) (256 ∷ b ∷ c ∷ b ∷ []) false
    ∷ rule_right_is 512 0 (c ∷ b ∷ []) (a ∷ c ∷ []) (256 ∷ b ∷ 256 ∷ b ∷ []) true
    ∷ [])
    -- Turned away: 9, frames that are no conversion under this motif and q: a hold without a find; a find without its hold, also over the seam; the
    -- holds of another q; numbers that are neither a move nor a hold. The buffer stays as it was
    ∷ row 22
    (restoring_gives 2 aacaa (256 ∷ a ∷ 256 ∷ a ∷ a ∷ a ∷ 256 ∷ a ∷ a ∷ []) 9 9
    ∷ restoring_gives 2 aacaa (a ∷ a ∷ 256 ∷ 256 ∷ a ∷ a ∷ 256 ∷ a ∷ a ∷ []) 9 9
    ∷ restoring_gives 2 aacaa (a ∷ a ∷ 256 ∷ a ∷ a ∷ a ∷ 256 ∷ a ∷ 256 ∷ []) 9 9
    ∷ restoring_gives 2 aacaa (a ∷ a ∷ 256 ∷ a ∷ a ∷ a ∷ c ∷ a ∷ a ∷ []) 9 9
    ∷ restoring_gives 2 aacaa listing 9 9
    ∷ restoring_gives 1 aacaa listing_frames 9 9
    ∷ restoring_gives 1 (a ∷ a ∷ []) (a ∷ []) 1 9
    ∷ restoring_gives 0 aaaa (256 ∷ 256 ∷ 256 ∷ a ∷ a ∷ a ∷ []) 6 9
    ∷ restoring_gives 0 (a ∷ []) (512 ∷ []) 1 9
    ∷ restoring_gives 0 (a ∷ []) (65535 ∷ []) 1 9
    ∷ restoring_leaves 0 aac (256 ∷ a ∷ a ∷ []) (1 ∷ 2 ∷ 3 ∷ []) (1 ∷ 2 ∷ 3 ∷ []) (zeros_beside 9)
    ∷ restoring_leaves 0 aac (a ∷ a ∷ c ∷ []) (1 ∷ 2 ∷ 3 ∷ []) (1 ∷ 2 ∷ 3 ∷ []) (zeros_beside 9)
    ∷ restoring_leaves 1 aac (256 ∷ a ∷ c ∷ []) (1 ∷ 2 ∷ 3 ∷ []) (1 ∷ 2 ∷ 3 ∷ []) (zeros_beside 9)
    ∷ restoring_leaves 0 aac (256 ∷ a ∷ c ∷ 256 ∷ []) (replicate 4 1) (replicate 4 1) (zeros_beside 9)
    ∷ restoring_leaves 1 aaaa (a ∷ 256 ∷ 256 ∷ a ∷ a ∷ a ∷ []) (replicate 6 1) (replicate 6 1) (zeros_beside 9)
    ∷ restoring_leaves 0 (c ∷ []) (257 ∷ []) (1 ∷ []) (1 ∷ []) (zeros_beside 9)
    ∷ [])
    -- The new buffer for cards needs n entries, under 7; 9 after 4 to 7. The first five meet every later condition too
    ∷ row 23
    (restoring_leaves 0 [] (replicate 16385 257) (1 ∷ []) (1 ∷ []) (zeros_beside 4)
    ∷ restoring_leaves 129 (replicate 129 a) (replicate 16385 257) (1 ∷ []) (1 ∷ []) (zeros_beside 4)
    ∷ restoring_leaves 1 (a ∷ []) (replicate 16385 257) (1 ∷ []) (1 ∷ []) (zeros_beside 5)
    ∷ restoring_leaves 0 (a ∷ []) (replicate 16385 257) (1 ∷ []) (1 ∷ []) (zeros_beside 6)
    ∷ restoring_leaves 0 (a ∷ []) (257 ∷ a ∷ []) (1 ∷ []) (1 ∷ []) (zeros_beside 7)
    ∷ restoring_leaves 0 (a ∷ []) (256 ∷ c ∷ []) (1 ∷ []) (1 ∷ []) (zeros_beside 7)
    ∷ restoring_gives 0 (a ∷ []) (256 ∷ c ∷ []) 2 0
    ∷ restoring_gives 0 (a ∷ []) (replicate 16384 257) 16383 7
    ∷ restoring_gives 4294967295 (a ∷ []) (257 ∷ []) 0 5
    ∷ restoring_gives 127 (replicate 128 a) (256 ∷ []) 1 0
    ∷ restoring_gives 127 (replicate 128 a) (a ∷ []) 1 9
    ∷ [])
    -- Document 02, "The card cutter's tariff": prices in pence for 0 to 8 holes are 3, 5, 6, 8, 9, 11, 12, 14, 15; a hold adds 40 to its card. The
    -- listing in document 01 costs 134
    ∷ row 24
    (job_costs 2 aacaa listing 134
    ∷ job_costs 0 aac (0x00 ∷ []) 3
    ∷ job_costs 0 aac (0x80 ∷ []) 5
    ∷ job_costs 0 aac (0x41 ∷ []) 6
    ∷ job_costs 0 aac (0x07 ∷ []) 8
    ∷ job_costs 0 aac (0xF0 ∷ []) 9
    ∷ job_costs 0 aac (0x1F ∷ []) 11
    ∷ job_costs 0 aac (0xFC ∷ []) 12
    ∷ job_costs 0 aac (0x7F ∷ []) 14
    ∷ job_costs 0 aac (0xFF ∷ []) 15
    ∷ job_costs 0 aac (0x00 ∷ 0x01 ∷ 0x03 ∷ 0x07 ∷ 0x0F ∷ 0x1F ∷ 0x3F ∷ 0x7F ∷ 0xFF ∷ []) 83
    ∷ job_costs 0 (0x00 ∷ []) (0x00 ∷ []) 43
    ∷ job_costs 0 (0xFF ∷ []) (0x00 ∷ 0xFF ∷ []) 58
    ∷ job_costs 3 aaaa (replicate 6 a) 276
    ∷ job_costs 0 aac [] 0
    ∷ frames_cost (0x00 ∷ 0xFF ∷ 0xFF ∷ []) (256 ∷ 512 ∷ 0xFF ∷ []) 113
    ∷ frames_cost (0x00 ∷ []) (4096 ∷ []) 43
    ∷ [])
    -- Above 4,096 cards a rebate of 5 in 100 of the total, rounded down to a penny, comes off: of the total with its holds
    ∷ row 25
    (job_costs 0 (b ∷ []) (replicate 4097 0x00) 11677
    ∷ frames_cost (replicate 4096 0x00) (replicate 4096 0x00) 12288
    ∷ frames_cost (replicate 4097 0x00) (replicate 4097 0x00) 11677
    ∷ frames_cost (replicate 4096 0x00) (replicate 4096 256) 176128
    ∷ frames_cost (replicate 4097 0x00) (replicate 4097 256) 167363
    ∷ frames_cost (replicate 16384 0xFF) (replicate 16384 256) 856064
    ∷ rebate_is 4096 901120 0
    ∷ rebate_is 4097 19 0
    ∷ rebate_is 4097 20 1
    ∷ rebate_is 4097 39 1
    ∷ rebate_is 4097 40 2
    ∷ rebate_is 16384 901120 45056
    ∷ [])
    -- Tables and finds are left as searching leaves them; the answer has the pence, and zeros beside its number; 4, 5, 6, 7. Of the refused ones
    -- the first three meet every later condition too
    ∷ row 26
    (pricing_leaves 0 (c ∷ []) (c ∷ a ∷ c ∷ []) lent_to_one left_by_one (9 ∷ 9 ∷ 9 ∷ 9 ∷ []) (0 ∷ 2 ∷ 9 ∷ 9 ∷ []) (price_answered 0 98)
    ∷ pricing_leaves 0 (c ∷ []) [] lent_to_one left_by_one (9 ∷ []) (9 ∷ []) (price_answered 0 0)
    ∷ pricing_leaves 0 [] (replicate 16385 c) lent_to_one lent_to_one (9 ∷ []) (9 ∷ []) (price_answered 4 0)
    ∷ pricing_leaves 1 (c ∷ []) (replicate 16385 c) lent_to_one lent_to_one (9 ∷ []) (9 ∷ []) (price_answered 5 0)
    ∷ pricing_leaves 0 (c ∷ []) (replicate 16385 c) lent_to_one lent_to_one (9 ∷ []) (9 ∷ []) (price_answered 6 0)
    ∷ pricing_leaves 0 (c ∷ []) (c ∷ c ∷ []) lent_to_one lent_to_one (9 ∷ []) (9 ∷ []) (price_answered 7 0)
    ∷ pricing_leaves 0 (replicate 129 c) [] lent_to_one lent_to_one (9 ∷ []) (9 ∷ []) (price_answered 4 0)
    ∷ pricing_gives 128 127 16384 (needed 128) 16384 0
    ∷ pricing_gives 128 0 0 (needed 128) 0 0
    ∷ pricing_gives 5 4 1 (needed 5) 1 0
    ∷ pricing_gives 129 0 0 (needed 129) 0 4
    ∷ pricing_gives 0 0 16385 no_room 0 4
    ∷ pricing_gives 1 4294967295 16385 no_room 0 5
    ∷ pricing_gives 1 0 16385 no_room 0 6
    ∷ pricing_gives 1 0 1 no_room 0 7
    ∷ pricing_gives 1 0 1 (room 1 2 256 1) 1 7
    ∷ pricing_gives 1 0 1 (room 2 1 256 1) 1 7
    ∷ pricing_gives 1 0 1 (room 2 2 255 1) 1 7
    ∷ pricing_gives 1 0 1 (room 2 2 256 0) 1 7
    ∷ pricing_gives 1 0 1 (room 2 2 256 1) 0 7
    ∷ pricing_gives 1 0 1 (room 2 2 256 1) 1 0
    ∷ [])
    -- A word of eight cards, and the holes of one card more. 8,192 cards FF have 65,536 holes
    ∷ row 27
    (word_is (0x01 ∷ 0x02 ∷ 0x03 ∷ 0x04 ∷ 0x05 ∷ 0x06 ∷ 0x07 ∷ 0x08 ∷ []) 0x0807060504030201
    ∷ word_is (replicate 8 0xFF) 0xFFFFFFFFFFFFFFFF
    ∷ word_is (0x80 ∷ []) 0x80
    ∷ ones_are (0x01 ∷ 0x02 ∷ 0x03 ∷ 0x04 ∷ 0x05 ∷ 0x06 ∷ 0x07 ∷ 0x08 ∷ 0x09 ∷ []) 15
    ∷ ones_are (replicate 8192 0xFF) 65536
    ∷ answers_are (count_answer (replicate 8192 0xFF)) (answer 0 0 0 65536 0 0)
    ∷ [])
    -- Document 02, "Write out the period and the bound": searching and converting work out p and the bound, preparing only p. The bound is 0 for
    -- an empty chain alone, where p is given too. A job turned away has zeros there. For m at least 3 × p the bound is that of "Long repeats"
    ∷ row 28
    (answers_are (answered 0 (prepare_done cbaaa)) (answer 0 0 0 0 5 0)
    ∷ answers_are (answered 4 (prepare_done [])) (zeros_beside 4)
    ∷ answers_are (answered 0 (search_done aaaa (replicate 6 a))) (answer 0 6 9 0 1 14)
    ∷ answers_are (answered 0 (search_done cbaaa cbaaa)) (answer 0 1 5 0 5 13)
    ∷ answers_are (answered 0 (search_done aaaa (replicate 3 a))) (answer 0 3 6 0 1 8)
    ∷ answers_are (answered 0 (convert_done aacaa [])) (answer 0 0 0 0 3 0)
    ∷ answers_are (answered 0 (convert_done aacaa (a ∷ a ∷ c ∷ a ∷ []))) (answer 0 1 7 8 3 11)
    ∷ answers_are (answered 6 (search_done aacaa listing)) (zeros_beside 6)
    ∷ bound_is (a ∷ a ∷ []) (replicate 5 c) 10
    ∷ bound_is (a ∷ a ∷ []) (replicate 5 a) 10
    ∷ bound_is (a ∷ a ∷ a ∷ []) (replicate 5 c) 11
    ∷ bound_is (a ∷ a ∷ a ∷ []) (replicate 5 a) 11
    ∷ bound_is (a ∷ a ∷ a ∷ []) (replicate 3 a) 7
    ∷ bound_is (a ∷ a ∷ a ∷ []) (a ∷ a ∷ c ∷ []) 7
    ∷ bound_is (c ∷ []) cac 5
    ∷ bound_is acaca (a ∷ c ∷ acaca) 19
    ∷ bound_is acaca (replicate 7 a) 17
    ∷ seek_prints "0105020000\n06\n06\n18\n06\n06\n" "0000\n00000000\n00000000\n0003\n00000000\n"
    ∷ [])
    -- The answers of whole calls with what they leave, done and refused: what a call does not work out is 0 in each. A buffer that is filled has an
    -- entry more than is needed
    ∷ row 29
    (preparing_leaves (c ∷ []) lent_to_one left_by_one (answer 0 0 0 0 1 0)
    ∷ preparing_leaves [] lent_to_one lent_to_one (zeros_beside 4)
    ∷ searching_leaves (c ∷ []) cac lent_to_one left_by_one (replicate 4 9) (0 ∷ 2 ∷ 9 ∷ 9 ∷ []) (answer 0 2 3 0 1 5)
    ∷ searching_leaves (c ∷ []) [] lent_to_one left_by_one (9 ∷ []) (9 ∷ []) (answer 0 0 0 0 1 0)
    ∷ searching_leaves (c ∷ []) cac lent_to_one lent_to_one (9 ∷ []) (9 ∷ []) (zeros_beside 7)
    ∷ converting_leaves 0 (c ∷ []) cac lent_to_one left_by_one (replicate 4 9) (0 ∷ 2 ∷ 9 ∷ 9 ∷ []) (replicate 4 9) (256 ∷ a ∷ 256 ∷ 9 ∷ [])
    (answer 0 2 3 6 1 5)
    ∷ converting_leaves 1 (c ∷ []) [] lent_to_one lent_to_one (9 ∷ []) (9 ∷ []) (9 ∷ []) (9 ∷ []) (zeros_beside 5)
    ∷ reading_leaves "0101000001\n18\n06\n" (9 ∷ 9 ∷ []) (c ∷ 9 ∷ []) (9 ∷ 9 ∷ []) (a ∷ 9 ∷ []) (read_answered 0 1 0 1)
    ∷ reading_leaves "0101000001\n18\n06\n" (9 ∷ []) (9 ∷ []) [] [] (read_answered 7 0 0 0)
    ∷ writing_leaves 0 (c ∷ []) [] (replicate 15 9) (bytes "0101000000\n18\n" ++ (9 ∷ [])) (write_answered 0 14)
    ∷ writing_leaves 0 (c ∷ []) [] (replicate 13 9) (replicate 13 9) (write_answered 7 0)
    ∷ turning_both_leaves 3 0 (b ∷ a ∷ []) (a ∷ []) (replicate 3 9) (0x60 ∷ 0x80 ∷ 9 ∷ []) (9 ∷ 9 ∷ []) (0x60 ∷ 9 ∷ []) (turn_answered 0 1)
    ∷ turning_both_leaves 4 0 (b ∷ a ∷ []) (a ∷ []) (replicate 3 9) (replicate 3 9) (9 ∷ 9 ∷ []) (9 ∷ 9 ∷ []) (turn_answered 8 0)
    ∷ reporting_leaves "0101000000\n18\n" (replicate 38 9) (bytes "0000\n00000000\n00000000\n0001\n00000000\n" ++ (9 ∷ [])) (report_answered 0 37)
    ∷ reporting_leaves "0101000000\n18\n" (replicate 36 9) (replicate 36 9) (report_answered 7 0)
    ∷ reporting_leaves "" (replicate 6 9) (bytes "FF01\n" ++ (9 ∷ [])) (report_answered 0 5)
    ∷ [])
    -- Document 02, "Long repeats": for a a c a a c a a c a a (p 3) Δ3(9) is 7; in a chain of 21 cards made of two copies sharing one card 10 is a find
    -- Document 002's shorthand for Δ3(9) gives 10: from 3, where place 9 differs, it goes past 10
    ∷ row 30
    (period_is aacaacaacaa 3
    ∷ stored_Δ3_is aacaacaacaa (replicate 8 0 ++ (9 ∷ 7 ∷ 0 ∷ []))
    ∷ occurrences_are aacaacaacaa two_sharing_one (0 ∷ 10 ∷ [])
    ∷ comparisons_are aacaacaacaa two_sharing_one 25
    ∷ bound_is aacaacaacaa two_sharing_one 51
    ∷ shorthand_is aacaacaacaa 9 10
    ∷ shift_loses aacaacaacaa two_sharing_one 3 9 (shorthand aacaacaacaa 9) 10
    ∷ [])
    -- Δ3(i) goes into entry i of a lent buffer of m entries, under 7, with 0 wherever it is not defined; it is defined for i from m - p to m - 2
    -- where m is at least 3 × p
    ∷ row 31
    (stored_Δ3_is acacac (0 ∷ 0 ∷ 0 ∷ 0 ∷ 6 ∷ 0 ∷ [])
    ∷ stored_Δ3_is acaca (replicate 5 0)
    ∷ stored_Δ3_is aaaa (replicate 4 0)
    ∷ preparing_leaves acacac (lent (room 8 8 1537 7)) left_by_acacac (answer 0 0 0 0 2 0)
    ∷ preparing_leaves (a ∷ c ∷ []) (lent (room 4 4 513 3)) left_by_ac (answer 0 0 0 0 2 0)
    ∷ preparing_leaves acacac (lent (room 7 7 1536 5)) (lent (room 7 7 1536 5)) (zeros_beside 7)
    ∷ searching_gives 6 1 (room 7 7 1536 5) 1 7
    ∷ searching_gives 6 1 (room 7 7 1536 6) 1 0
    ∷ converting_gives 6 0 1 (room 7 7 1536 5) 1 1 7
    ∷ converting_gives 6 0 1 (room 7 7 1536 6) 1 1 0
    ∷ [])
    -- Where m is at least 3 × p, a find moves on by p and only places m - 1 down to m - p are looked at. If m - 1 differs, the shift is Δ1(card, p);
    -- if a lower place does, Δ3; the ordinary steps go on with that shift as s. Shorter motifs are looked at whole
    ∷ row 32
    (answers_are (answered 0 (search_done acacac (a ∷ c ∷ a ∷ c ∷ acacac))) (answer 0 5 14 0 2 24)
    ∷ occurrences_are acacac (acacac ++ (c ∷ acacac)) (0 ∷ 7 ∷ 9 ∷ 11 ∷ [])
    ∷ answers_are (answered 0 (search_done acacac (acacac ++ (c ∷ acacac)))) (answer 0 4 17 0 2 30)
    ∷ answers_are (answered 0 (search_done acacac (acacac ++ (a ∷ a ∷ acacac)))) (answer 0 4 18 0 2 32)
    ∷ occurrences_are acacac (acacac ++ (c ∷ c ∷ a ∷ acacac)) (0 ∷ 9 ∷ 11 ∷ 13 ∷ [])
    ∷ answers_are (answered 0 (search_done acacac (acacac ++ (c ∷ c ∷ a ∷ acacac)))) (answer 0 4 19 0 2 34)
    ∷ answers_are (answered 0 (search_done (a ∷ a ∷ a ∷ []) (a ∷ a ∷ a ∷ c ∷ a ∷ a ∷ a ∷ []))) (answer 0 4 9 0 1 15)
    ∷ comparisons_are (a ∷ a ∷ a ∷ []) (replicate 5 a) 7
    ∷ comparisons_are (a ∷ a ∷ []) (replicate 5 a) 10
    ∷ comparisons_are acaca (a ∷ c ∷ acaca) 11
    ∷ seek_prints "0103000005\n06\n06\n06\n06\n06\n06\n06\n06\n" "0005\n00000007\n0000000A\n0001\n0000000B\n0000\n0001\n0002\n0003\n0004\n0100\n0100\n0100\n0100\n0100\n"
    ∷ [])
    -- The looks themselves, in their order: after a find only m - 1 down to m - p. Each shift is the s of the next step, out of a repeat (Δ1 and
    -- Δ3) and in the ordinary steps (after a find, Δ2 and Δ1)
    ∷ row 33
    (comparisons_in_order (aac ++ aac ++ aac) (aac ++ aac ++ aac ++ aac)
    (pair 8 8 ∷ pair 0 0 ∷ pair 1 1 ∷ pair 2 2 ∷ pair 3 3 ∷ pair 4 4 ∷ pair 5 5 ∷ pair 6 6 ∷ pair 7 7
    ∷ pair 8 11 ∷ pair 7 10 ∷ pair 6 9 ∷ pair 8 14 ∷ pair 7 13 ∷ pair 6 12 ∷ pair 8 17 ∷ pair 7 16 ∷ pair 6 15 ∷ [])
    ∷ comparisons_in_order acaca (replicate 6 a ++ (c ∷ a ∷ a ∷ c ∷ a ∷ []))
    (pair 4 4 ∷ pair 0 0 ∷ pair 1 1 ∷ pair 4 6 ∷ pair 4 9 ∷ pair 4 12 ∷ pair 0 8 ∷ pair 1 9 ∷ pair 2 10 ∷ pair 3 11 ∷ [])
    ∷ answers_are (answered 0 (search_done acaacaacaac (acaacaacaac ++ (a ∷ a ∷ acaacaacaac) ++ (c ∷ a ∷ c ∷ acaacaacaac))))
    (answer 0 3 40 0 3 85)
    ∷ comparisons_are acaca (acaca ++ (a ∷ c ∷ replicate 6 a) ++ (c ∷ c ∷ a ∷ [])) 14
    ∷ stored_Δ3_is accaaccaaccaacc (replicate 11 0 ++ (12 ∷ 15 ∷ 13 ∷ 0 ∷ []))
    ∷ [])
    -- Document 02, "The longest honest step": for c b a a a, Δ2(3) is 5, so that nothing is looked at from place 2 on. A shift may be longer than p
    ∷ row 34
    (comparisons_in_order cbaaa (c ∷ c ∷ a ∷ b ∷ a ∷ cbaaa)
    (pair 4 4 ∷ pair 2 2 ∷ pair 3 3 ∷ pair 4 9 ∷ pair 2 7 ∷ pair 3 8 ∷ pair 0 5 ∷ pair 1 6 ∷ [])
    ∷ period_is aabbaaa 5
    ∷ Δ2_from_2_is aabbaaa (1 ∷ 6 ∷ replicate 5 5)
    ∷ comparisons_are aabbaaa (a ∷ a ∷ b ∷ b ∷ a ∷ b ∷ a ∷ aabbaaa) 15
    ∷ Δ2_from_2_is (a ∷ b ∷ a ∷ b ∷ replicate 5 a) (1 ∷ 2 ∷ 8 ∷ 6 ∷ replicate 5 8)
    ∷ Δ2_from_2_is (b ∷ a ∷ b ∷ a ∷ b ∷ a ∷ b ∷ []) (2 ∷ 2 ∷ 4 ∷ 4 ∷ 6 ∷ 6 ∷ 2 ∷ [])
    ∷ [])
    -- Document 02, "Why this scallop has no hold": every place of the listing, and each kind of shift. A differing look in a repeat counts as long
    -- repeat, also when the last card differs. The earliest look may lie before the shift that went past
    ∷ row 35
    (explanation_is aacaa listing 0 Listed
    ∷ explanation_is aacaa listing 1 (PassedOver 0 2 AfterOccurrence)
    ∷ explanation_is aacaa listing 2 (PassedOver 0 2 AfterOccurrence)
    ∷ explanation_is aacaa listing 3 (Tried 3)
    ∷ explanation_is aacaa listing 4 Listed
    ∷ explanation_is aacaa listing 5 (PassedOver 4 2 AfterOccurrence)
    ∷ explanation_is aacaa listing 6 (PassedOver 4 0 AfterOccurrence)
    ∷ explanation_is aacaa listing 7 (Tried 4)
    ∷ explanation_is aacaa listing 8 (PassedOver 7 3 LastByte)
    ∷ explanation_is (a ∷ c ∷ []) (a ∷ b ∷ a ∷ c ∷ []) 0 (Tried 1)
    ∷ explanation_is (a ∷ c ∷ []) (a ∷ b ∷ a ∷ c ∷ []) 1 (PassedOver 0 0 LastByte)
    ∷ explanation_is cbaaa (c ∷ c ∷ a ∷ b ∷ a ∷ cbaaa) 1 (PassedOver 0 1 Order)
    ∷ explanation_is cbaaa (c ∷ c ∷ a ∷ b ∷ a ∷ cbaaa) 2 (PassedOver 0 0 Order)
    ∷ explanation_is aaaa (aaaa ++ (c ∷ aaaa)) 1 (Tried 3)
    ∷ explanation_is aaaa (aaaa ++ (c ∷ aaaa)) 2 (PassedOver 1 2 LongRepeat)
    ∷ explanation_is aacaacaacaa two_sharing_one 2 (PassedOver 0 8 AfterOccurrence)
    ∷ explanation_is aacaacaacaa two_sharing_one 3 (Tried 9)
    ∷ explanation_is aacaacaacaa two_sharing_one 6 (PassedOver 3 6 LongRepeat)
    ∷ explanation_is (c ∷ acaca) (c ∷ acaca ++ (c ∷ c ∷ acaca)) 3 (PassedOver 2 2 LongRepeat)
    ∷ explanation_is (c ∷ acaca) (c ∷ acaca ++ cac) 3 (PassedOver 2 2 AfterOccurrence)
    ∷ explanation_is (c ∷ a ∷ a ∷ []) acaca 2 (PassedOver 1 0 LastByte)
    ∷ explanation_is (a ∷ c ∷ a ∷ []) (a ∷ c ∷ c ∷ a ∷ a ∷ []) 2 (PassedOver 1 0 Order)
    ∷ explanation_is (c ∷ a ∷ a ∷ []) (a ∷ c ∷ a ∷ a ∷ a ∷ []) 2 (PassedOver 1 0 AfterOccurrence)
    ∷ [])
    -- The numbers of each case and kind. Turned away by 10 where b is n or more, after 4 to 7; whole calls, and what they leave
    ∷ row 36
    (numbers_are Listed (explain_answered 0 1 0 0 0)
    ∷ numbers_are (Tried 3) (explain_answered 0 2 3 0 0)
    ∷ numbers_are (PassedOver 7 5 LastByte) (explain_answered 0 3 5 7 1)
    ∷ numbers_are (PassedOver 7 5 Order) (explain_answered 0 3 5 7 2)
    ∷ numbers_are (PassedOver 7 5 AfterOccurrence) (explain_answered 0 3 5 7 3)
    ∷ numbers_are (PassedOver 7 5 LongRepeat) (explain_answered 0 3 5 7 4)
    ∷ explaining_gives 5 9 8 (needed 5) 0
    ∷ explaining_gives 5 9 9 (needed 5) 10
    ∷ explaining_gives 5 1 0 (needed 5) 0
    ∷ explaining_gives 5 0 0 (needed 5) 10
    ∷ explaining_gives 5 9 0xFFFFFFFF (needed 5) 10
    ∷ explaining_gives 0 16385 0 no_room 4
    ∷ explaining_gives 129 9 9 no_room 4
    ∷ explaining_gives 5 16385 16385 no_room 6
    ∷ explaining_gives 5 16384 16383 (needed 5) 0
    ∷ explaining_gives 5 9 9 (room 5 6 1280 5) 7
    ∷ explaining_gives 5 9 9 (room 6 5 1280 5) 7
    ∷ explaining_gives 5 9 9 (room 6 6 1279 5) 7
    ∷ explaining_gives 5 9 9 (room 6 6 1280 4) 7
    ∷ explaining_leaves 2 (c ∷ []) cac lent_to_one left_by_one (explain_answered 0 1 0 0 0)
    ∷ explaining_leaves 1 (c ∷ []) cac lent_to_one left_by_one (explain_answered 0 2 0 0 0)
    ∷ explaining_leaves 1 (a ∷ c ∷ []) (a ∷ b ∷ a ∷ c ∷ []) (lent (room 4 4 513 3)) left_by_ac (explain_answered 0 3 0 0 1)
    ∷ explaining_leaves 3 (c ∷ []) cac lent_to_one lent_to_one (explain_answered 10 0 0 0 0)
    ∷ [])
    -- Document 02, "Chains are laced into a ring": chain place x shows card x modulo n, for x up to n + m - 2, and the hold goes to (b + q) modulo n,
    -- also where n is below m; the holds need not be in the order of the finds. Put back, as whole calls, and explained over the seam
    ∷ row 37
    (comparisons_in_order aacaa listing
    (pair 4 4 ∷ pair 3 3 ∷ pair 0 0 ∷ pair 1 1 ∷ pair 2 2 ∷ pair 4 7 ∷ pair 3 6 ∷ pair 4 8 ∷ pair 3 7 ∷ pair 0 4 ∷ pair 1 5 ∷ pair 2 6 ∷ pair 4 11 ∷ [])
    ∷ occurrences_are aac (c ∷ a ∷ a ∷ []) (1 ∷ [])
    ∷ frames_are 1 aac (c ∷ a ∷ a ∷ []) (c ∷ a ∷ 256 ∷ [])
    ∷ frames_are 2 aac (c ∷ a ∷ a ∷ []) (256 ∷ a ∷ a ∷ [])
    ∷ occurrences_are acaca (c ∷ a ∷ []) (1 ∷ [])
    ∷ occurrences_are acaca (a ∷ []) []
    ∷ frames_are 4 acaca (a ∷ c ∷ []) (256 ∷ c ∷ [])
    ∷ frames_are 1 (a ∷ c ∷ []) (c ∷ a ∷ c ∷ a ∷ []) (256 ∷ a ∷ 256 ∷ a ∷ [])
    ∷ seek_prints "0102010002\n06\n18\n18\n06\n" "0001\n00000003\n00000004\n0002\n00000004\n0001\n0100\n0006\n"
    ∷ job_costs 2 aac (c ∷ a ∷ a ∷ []) 58
    ∷ job_costs 3 aaaa (a ∷ []) 46
    ∷ restoring_leaves 2 aac (256 ∷ a ∷ a ∷ []) (replicate 4 1) (c ∷ a ∷ a ∷ 1 ∷ []) (zeros_beside 0)
    ∷ restoring_leaves 2 aac (c ∷ a ∷ a ∷ []) (replicate 3 1) (replicate 3 1) (zeros_beside 9)
    ∷ restoring_gives 2 aac (a ∷ a ∷ 256 ∷ []) 3 0
    ∷ converting_leaves 1 (a ∷ c ∷ []) (c ∷ a ∷ []) (lent (room 4 4 513 3)) left_by_ac (replicate 3 9) (1 ∷ 9 ∷ 9 ∷ []) (replicate 3 9)
    (256 ∷ a ∷ 9 ∷ []) (answer 0 1 3 4 2 4)
    ∷ searching_leaves (a ∷ c ∷ []) (c ∷ a ∷ []) (lent (room 4 4 513 3)) left_by_ac (replicate 3 9) (1 ∷ 9 ∷ 9 ∷ []) (answer 0 1 3 0 2 4)
    ∷ pricing_leaves 1 (a ∷ c ∷ []) (c ∷ a ∷ []) (lent (room 4 4 513 3)) left_by_ac (replicate 3 9) (1 ∷ 9 ∷ 9 ∷ []) (price_answered 0 52)
    ∷ explaining_leaves 1 (a ∷ c ∷ []) (c ∷ a ∷ []) (lent (room 4 4 513 3)) left_by_ac (explain_answered 0 1 0 0 0)
    ∷ explanation_is aaaa (aaaa ++ (c ∷ [])) 1 (Tried 3)
    ∷ explanation_is aaaa (aaaa ++ (c ∷ [])) 4 (PassedOver 1 0 LongRepeat)
    ∷ explanation_is (a ∷ c ∷ a ∷ []) (a ∷ c ∷ c ∷ []) 2 (PassedOver 1 0 Order)
    ∷ explanation_is acaca (c ∷ a ∷ []) 0 (Tried 4)
    ∷ [])
    -- Document 02, "Lacing at another card": the listing started 1, 2 and 5 cards later. Its finds 0 and 4 are turned back around the ring, again
    -- ascending, and the frames turned alike; the looks differ, and the bound holds for each start, also where finds add to it. A ring shorter than its
    -- motif. Whole calls: a ring is converted, and then started a card later with the buffers as they were left, with 3 looks and with 2; and searched
    ∷ row 38
    (rotated_are 1 listing (a ∷ c ∷ a ∷ a ∷ a ∷ c ∷ a ∷ a ∷ a ∷ [])
    ∷ rotated_positions_are 9 1 (0 ∷ 4 ∷ []) (3 ∷ 8 ∷ [])
    ∷ occurrences_are aacaa (rotated 1 listing) (3 ∷ 8 ∷ [])
    ∷ frames_are 2 aacaa (rotated 1 listing) (a ∷ 256 ∷ a ∷ a ∷ a ∷ 256 ∷ a ∷ a ∷ a ∷ [])
    ∷ answers_are (answered 0 (convert_done aacaa listing)) (answer 0 2 13 18 3 21)
    ∷ answers_are (answered 0 (convert_done aacaa (rotated 1 listing))) (answer 0 2 15 18 3 21)
    ∷ occurrences_are aacaa (rotated 2 listing) (2 ∷ 7 ∷ [])
    ∷ answers_are (answered 0 (convert_done aacaa (rotated 2 listing))) (answer 0 2 12 18 3 21)
    ∷ occurrences_are aacaa (rotated 5 listing) (4 ∷ 8 ∷ [])
    ∷ answers_are (answered 0 (convert_done aacaa (rotated 5 listing))) (answer 0 2 18 18 3 21)
    ∷ frames_are 2 aacaa (rotated 5 listing) (a ∷ 256 ∷ a ∷ a ∷ a ∷ a ∷ 256 ∷ a ∷ a ∷ [])
    ∷ occurrences_are acaca (rotated 1 (c ∷ a ∷ [])) (0 ∷ [])
    ∷ rotated_are 2 (a ∷ b ∷ c ∷ []) (c ∷ a ∷ b ∷ [])
    ∷ rotated_are 3 (a ∷ b ∷ c ∷ []) (a ∷ b ∷ c ∷ [])
    ∷ rotated_positions_are 3 3 (0 ∷ 2 ∷ []) (0 ∷ 2 ∷ [])
    ∷ answers_are (answered 0 (convert_done acaca acacac)) (answer 0 3 15 12 2 18)
    ∷ answers_are (answered 0 (convert_done acaca (rotated 1 acacac))) (answer 0 3 16 12 2 18)
    ∷ both_searched 1 1 (a ∷ c ∷ []) (c ∷ a ∷ [])
    (call (buffers (lent (room 4 4 513 3)) (replicate 3 9) (replicate 3 9)) (buffers left_by_ac (1 ∷ 9 ∷ 9 ∷ []) (256 ∷ a ∷ 9 ∷ [])) (answer 0 1 3 4 2 4))
    (call (buffers left_by_ac (1 ∷ 9 ∷ 9 ∷ []) (256 ∷ a ∷ 9 ∷ [])) (buffers left_by_ac (0 ∷ 9 ∷ 9 ∷ []) (a ∷ 256 ∷ 9 ∷ [])) (answer 0 1 2 4 2 4))
    ∷ both_searched 1 1 (a ∷ c ∷ []) (c ∷ a ∷ [])
    (call (buffers (lent (room 4 4 513 3)) (replicate 3 9) []) (buffers left_by_ac (1 ∷ 9 ∷ 9 ∷ []) []) (answer 0 1 3 0 2 4))
    (call (buffers left_by_ac (1 ∷ 9 ∷ 9 ∷ []) []) (buffers left_by_ac (0 ∷ 9 ∷ 9 ∷ []) []) (answer 0 1 2 0 2 4))
    ∷ [])
    -- Demand 3: rings a a c and b a c differ only at place 0, where a search for a c never looks.
    -- The looks are the same. Two calls of `search` and two of `convert` meet the premise
    ∷ row 39
    (comparisons_in_order (a ∷ c ∷ []) aac (pair 1 1 ∷ pair 1 2 ∷ pair 0 1 ∷ [])
    ∷ comparisons_in_order (a ∷ c ∷ []) bac (pair 1 1 ∷ pair 1 2 ∷ pair 0 1 ∷ [])
    ∷ alike_where_compared (a ∷ c ∷ []) aac bac
    ∷ both_paired 1 (a ∷ c ∷ []) aac bac
    searched_aac
    (call searched_aac.left searched_aac.left (answer 0 1 3 0 2 6))
    ∷ both_paired 1 (a ∷ c ∷ []) aac bac
    (call (buffers (lent (room 4 4 513 3)) (replicate 3 9) (replicate 4 9)) (buffers left_by_ac (1 ∷ 9 ∷ 9 ∷ []) (a ∷ a ∷ 256 ∷ 9 ∷ [])) (answer 0 1 3 6 2 6))
    (call (buffers left_by_ac (1 ∷ 9 ∷ 9 ∷ []) (a ∷ a ∷ 256 ∷ 9 ∷ [])) (buffers left_by_ac (1 ∷ 9 ∷ 9 ∷ []) (b ∷ a ∷ 256 ∷ 9 ∷ [])) (answer 0 1 3 5 2 6))
    ∷ both_explained 0 (a ∷ c ∷ []) aac bac (explain_answered 0 2 1 0 0) (explain_answered 0 2 1 0 0)
    ∷ both_explained 1 (a ∷ c ∷ []) aac bac (explain_answered 0 1 0 0 0) (explain_answered 0 1 0 0 0)
    ∷ both_explained 2 (a ∷ c ∷ []) aac bac (explain_answered 0 3 0 1 3) (explain_answered 0 3 0 1 3)
    ∷ both_priced 1 (a ∷ c ∷ []) aac bac (priced_aac 58) (priced_aac 57)
    ∷ [])
    -- a c c b c c: order 5, 4, 3, 0, 1, 2, -1. By rising k_min, not rising h: k_min(4) is 1, not 4,
    -- and k_min(3) is 3, since h may be k
    ∷ row 40 (order_is (a ∷ c ∷ c ∷ b ∷ c ∷ c ∷ []) (pos 5 ∷ pos 4 ∷ pos 3 ∷ pos 0 ∷ pos 1 ∷ pos 2 ∷ negsuc 0 ∷ []) ∷ [])
    -- One wrong claim of each kind, in the order of the kinds, then some that are wrong in another
    -- part. None holds, so no kind is void
    ∷ row 41
    (map refuted
    (period_is aacaa 2
    ∷ order_is aacaa (pos 4 ∷ pos 3 ∷ pos 0 ∷ pos 1 ∷ pos 2 ∷ [])
    ∷ Δ2_from_2_is aacaa (1 ∷ 3 ∷ 3 ∷ 3 ∷ [])
    ∷ Δ1_is aacaa c 1 1
    ∷ stored_Δ3_is acacac (replicate 4 0 ++ (6 ∷ []))
    ∷ occurrences_are aacaa listing (0 ∷ [])
    ∷ comparisons_are aacaa listing 14
    ∷ comparisons_in_order (a ∷ c ∷ []) aac (pair 1 1 ∷ pair 1 2 ∷ [])
    ∷ bound_is aacaa listing 20
    ∷ ones_are (0xFF ∷ []) 7
    ∷ word_is (0x01 ∷ 0x00 ∷ []) 0x0100
    ∷ job_file_is 0 (c ∷ []) [] "0101000000\n18"
    ∷ seek_prints "" "FF01"
    ∷ file_gives "0200000000\n" 4
    ∷ job_gives 1 1 0 0
    ∷ reading_gives "0101000000\n0A\n" 0 0 0
    ∷ writing_gives 1 0 0 13 0
    ∷ preparing_gives 0 (needed 0) 0
    ∷ searching_gives 1 1 (needed 1) 0 0
    ∷ converting_gives 1 1 0 (needed 1) 0 0 0
    ∷ needed_are 1 (room 2 2 256 0)
    ∷ counting_gives 16385 0
    ∷ reporting_gives 5 4 0
    ∷ answers_are (count_answer (0xFF ∷ [])) (answer 0 0 0 7 0 0)
    ∷ turned_are 2 (a ∷ b ∷ []) (a ∷ b ∷ [])
    ∷ frames_are 0 (a ∷ []) (a ∷ []) (a ∷ [])
    ∷ turning_gives 4 1 0 1 1 1 0
    ∷ turning_leaves 0 2 (b ∷ a ∷ []) (1 ∷ 2 ∷ []) (1 ∷ 2 ∷ [])
    ∷ turn_answers_are (turn_answer 0 2 4 0) (turn_answered 0 0)
    ∷ restored_are (a ∷ c ∷ []) (512 ∷ []) (a ∷ [])
    ∷ marked_are 512 (0 ∷ []) (a ∷ []) (a ∷ [])
    ∷ rule_right_is 512 0 (c ∷ []) (a ∷ c ∷ []) (512 ∷ []) false
    ∷ restoring_gives 0 (a ∷ []) (257 ∷ []) 1 0
    ∷ restoring_leaves 0 (c ∷ []) (256 ∷ []) (1 ∷ []) (1 ∷ []) (zeros_beside 0)
    ∷ job_costs 0 aac [] 1
    ∷ frames_cost (0x00 ∷ []) (256 ∷ []) 3
    ∷ rebate_is 4097 20 0
    ∷ pricing_gives 1 1 0 (needed 1) 0 0
    ∷ pricing_leaves 0 (c ∷ []) [] lent_to_one left_by_one (9 ∷ []) (9 ∷ []) (price_answered 0 1)
    ∷ preparing_leaves (c ∷ []) lent_to_one left_by_one (zeros_beside 0)
    ∷ searching_leaves (c ∷ []) (c ∷ []) lent_to_one left_by_one (9 ∷ []) (9 ∷ []) (answer 0 1 1 0 1 1)
    ∷ converting_leaves 0 (c ∷ []) [] lent_to_one left_by_one (9 ∷ []) (9 ∷ []) (9 ∷ []) (256 ∷ []) (answer 0 0 0 0 1 0)
    ∷ reading_leaves "" (9 ∷ []) (9 ∷ []) [] [] (read_answered 0 0 0 0)
    ∷ writing_leaves 0 (c ∷ []) [] [] [] (write_answered 0 0)
    ∷ turning_both_leaves 4 0 (b ∷ []) [] (9 ∷ []) (9 ∷ []) [] [] (turn_answered 0 0)
    ∷ reporting_leaves "" [] [] (report_answered 0 0)
    ∷ explanation_is aacaa listing 3 (Tried 4)
    ∷ numbers_are (Tried 3) (explain_answered 0 2 0 0 0)
    ∷ explaining_gives 5 9 9 (needed 5) 0
    ∷ explaining_leaves 3 (c ∷ []) cac lent_to_one lent_to_one (explain_answered 0 0 0 0 0)
    ∷ rotated_are 1 (a ∷ b ∷ []) (a ∷ b ∷ [])
    ∷ rotated_positions_are 3 1 (0 ∷ []) (0 ∷ [])
    ∷ both_searched 3 1 (a ∷ c ∷ []) aac searched_aac refused_call
    ∷ alike_where_compared (a ∷ c ∷ []) aac (replicate 3 a)
    ∷ both_paired 1 (a ∷ c ∷ []) aac (replicate 3 a) searched_aac (call searched_aac.left searched_aac.left (answer 0 0 3 0 2 6))
    ∷ shorthand_is aacaacaacaa 9 7
    ∷ shift_loses aacaacaacaa two_sharing_one 3 9 (Δ3 aacaacaacaa 9) 10
    ∷ both_explained 0 (a ∷ c ∷ []) aac bac (explain_answered 0 2 1 0 0) (explain_answered 10 0 0 0 0)
    ∷ both_priced 1 (a ∷ c ∷ []) aac bac (priced_aac 58) (priced_aac 58)
    ∷ refuted (period_is aacaa 3)
    ∷ preparing_leaves (c ∷ []) lent_to_one lent_to_one (answer 0 0 0 0 1 0)
    ∷ searching_leaves (c ∷ []) (c ∷ []) lent_to_one left_by_one (9 ∷ []) (0 ∷ []) (answer 0 0 1 0 1 1)
    ∷ converting_leaves 0 (c ∷ []) [] lent_to_one left_by_one (9 ∷ []) (9 ∷ []) (9 ∷ []) (9 ∷ []) (answer 0 0 0 0 2 0)
    ∷ restoring_leaves 0 (c ∷ []) (256 ∷ []) (1 ∷ []) (c ∷ []) (zeros_beside 9)
    ∷ pricing_leaves 0 (c ∷ []) [] lent_to_one lent_to_one (9 ∷ []) (9 ∷ []) (price_answered 0 0)
    ∷ reading_leaves "0101000000\n18\n" (9 ∷ []) (9 ∷ []) [] [] (read_answered 0 1 0 0)
    ∷ writing_leaves 0 (c ∷ []) [] (replicate 14 9) (replicate 14 9) (write_answered 0 14)
    ∷ turning_both_leaves 2 0 (b ∷ []) [] (9 ∷ []) (9 ∷ []) [] [] (turn_answered 0 0)
    ∷ reporting_leaves "" (replicate 5 9) (replicate 5 9) (report_answered 0 5)
    ∷ explaining_leaves 2 (c ∷ []) cac lent_to_one lent_to_one (explain_answered 0 1 0 0 0)
    ∷ both_searched 3 1 (a ∷ c ∷ []) aac searched_aac (call (buffers left_by_ac (1 ∷ 9 ∷ 9 ∷ []) []) (buffers left_by_ac (1 ∷ 9 ∷ 9 ∷ []) []) (answer 0 1 3 0 2 6))
    ∷ both_paired 1 (a ∷ c ∷ []) aac bac searched_aac refused_call
    ∷ both_explained 0 (a ∷ c ∷ []) aac (replicate 3 a) (explain_answered 0 2 1 0 0) (explain_answered 0 2 1 0 0)
    ∷ both_priced 1 (a ∷ c ∷ []) aac (replicate 3 a) (priced_aac 58) (priced_aac 18)
    ∷ both_paired 1 (a ∷ c ∷ []) aac (b ∷ a ∷ c ∷ b ∷ []) searched_aac (call searched_aac.left searched_aac.left (answer 0 1 4 0 2 8))
    ∷ []))
    -- Document 02, "A rule table": 1 to 16 rules, each a motif and a q, numbered from 1; 11 for no
    -- rules or more than 16, before 4. Rules are tested from 1 up, each for 4 and then 5. A slot
    -- past the last rule is no rule
    ∷ row 42
    (rules_give [] 11
    ∷ rules_give (0 ∷ 1 ∷ 0 ∷ a ∷ []) 11
    ∷ rules_give (1 ∷ 1 ∷ 0 ∷ a ∷ []) 0
    ∷ rules_give (table sixteen) 0
    ∷ rules_give (17 ∷ 0 ∷ 0 ∷ []) 11
    ∷ rules_give (255 ∷ []) 11
    ∷ rules_give (1 ∷ 0 ∷ 0 ∷ []) 4
    ∷ rules_give (1 ∷ 128 ∷ 127 ∷ []) 0
    ∷ rules_give (1 ∷ 129 ∷ 0 ∷ []) 4
    ∷ rules_give (1 ∷ 129 ∷ 255 ∷ []) 4
    ∷ rules_give (1 ∷ 255 ∷ 0 ∷ []) 4
    ∷ rules_give (1 ∷ 128 ∷ 128 ∷ []) 5
    ∷ rules_give (1 ∷ 1 ∷ 1 ∷ []) 5
    ∷ rules_give (table (rule (a ∷ []) 1 ∷ rule [] 0 ∷ [])) 5
    ∷ rules_give (table (rule [] 0 ∷ rule (a ∷ []) 1 ∷ [])) 4
    ∷ rules_give (table (rule (a ∷ []) 0 ∷ rule [] 0 ∷ [])) 4
    ∷ rules_give (table (replicate 15 (rule aac 2) ++ (rule aac 3 ∷ []))) 5
    ∷ rules_are (table three_rules) three_rules
    ∷ rules_are (1 ∷ slot_of (rule aac 2) ++ slot_of (rule (b ∷ []) 0)) (rule aac 2 ∷ [])
    ∷ rules_are (2 ∷ slot_of (rule aac 2) ++ slot_of (rule (b ∷ []) 0)) (rule aac 2 ∷ rule (b ∷ []) 0 ∷ [])
    ∷ [])
    -- An edit puts a new motif and q in one numbered rule and keeps all others; its number is that
    -- of a rule, or else it gives 11, before 4. Its new rule is tested last. Every rule has space
    -- for 128 cards, so an edit never gives 7
    ∷ row 43
    (naming_gives (table a_and_c) 0 11
    ∷ naming_gives (table a_and_c) 1 0
    ∷ naming_gives (table a_and_c) 2 0
    ∷ naming_gives (table a_and_c) 3 11
    ∷ naming_gives (table sixteen) 16 0
    ∷ naming_gives (table sixteen) 17 11
    ∷ naming_gives (table sixteen) 0xFFFFFFFF 11
    ∷ naming_gives (17 ∷ []) 17 11
    ∷ naming_gives (2 ∷ []) 3 11
    ∷ naming_gives (2 ∷ []) 2 4
    ∷ naming_gives (table (rule (a ∷ []) 1 ∷ rule (c ∷ []) 0 ∷ [])) 2 5
    ∷ editing_gives (table a_and_c) 1 128 127 0
    ∷ editing_gives (table a_and_c) 2 1 0 0
    ∷ editing_gives (table a_and_c) 2 0 0 4
    ∷ editing_gives (table a_and_c) 2 129 0 4
    ∷ editing_gives (table a_and_c) 2 128 128 5
    ∷ editing_gives (table a_and_c) 3 0 0 11
    ∷ editing_gives (table a_and_c) 0 0 0 11
    ∷ editing_gives (17 ∷ []) 1 1 0 11
    ∷ editing_gives (table (rule (a ∷ []) 1 ∷ [])) 1 0 0 5
    ∷ editing_gives (table (rule [] 0 ∷ [])) 1 1 1 4
    ∷ editing_leaves 2 1 aac (table (rule (a ∷ []) 0 ∷ rule cbaaa 4 ∷ []))
    (2 ∷ slot_of (rule (a ∷ []) 0) ++ (3 ∷ 1 ∷ a ∷ a ∷ c ∷ a ∷ a ∷ replicate 123 0) ++ replicate 1820 0)
    (zeros_beside 0)
    ∷ editing_leaves 1 127 (replicate 128 c) (table a_and_c)
    (table (rule (replicate 128 c) 127 ∷ rule (c ∷ []) 0 ∷ [])) (zeros_beside 0)
    ∷ editing_leaves 3 0 aac (table a_and_c) (table a_and_c) (zeros_beside 11)
    ∷ editing_leaves 1 3 aac (table a_and_c) (table a_and_c) (zeros_beside 5)
    ∷ editing_leaves 2 0 [] (table a_and_c) (table a_and_c) (zeros_beside 4)
    ∷ [])
    -- The hold frame says which rule gave it: 256 times its number, so rule 1 prints as before.
    -- Finds, looks, p and the bound are told per rule, and each rule that found nothing is marked,
    -- and no other. Finds and tables stand rule after rule. A ring shorter than every motif, and an
    -- empty one
    ∷ row 44
    (rule_frames_are (rule aacaa 2 ∷ []) listing listing_frames
    ∷ rule_frames_are three_rules listing (a ∷ 768 ∷ 256 ∷ a ∷ a ∷ 768 ∷ 256 ∷ a ∷ a ∷ [])
    ∷ rules_found_are three_rules listing (0 ∷ 4 ∷ 1 ∷ 5 ∷ [])
    ∷ rules_told_are three_rules listing (and_nothing (told 2 13 3 21 0 ∷ told 0 9 1 17 1 ∷ told 2 9 2 18 0 ∷ []))
    ∷ rules_needed_are three_rules (room 11 11 2048 8)
    ∷ rules_cost_is three_rules listing 214
    ∷ rules_found_are (third (c ∷ c ∷ []) 0) listing (0 ∷ 4 ∷ 3 ∷ 7 ∷ 8 ∷ [])
    ∷ rules_told_are (third (c ∷ c ∷ []) 0) listing (and_nothing (told 2 13 3 21 0 ∷ told 3 9 1 19 0 ∷ told 0 5 1 18 1 ∷ []))
    ∷ rule_frames_are (third (c ∷ c ∷ []) 0) listing (512 ∷ a ∷ 256 ∷ a ∷ 512 ∷ a ∷ 256 ∷ a ∷ 512 ∷ [])
    ∷ rule_frames_are (third (c ∷ a ∷ []) 1) listing (512 ∷ a ∷ 256 ∷ 768 ∷ 512 ∷ a ∷ 256 ∷ 768 ∷ 512 ∷ [])
    ∷ rule_frames_are sixteen (16 ∷ 2 ∷ 1 ∷ 17 ∷ []) (4096 ∷ 512 ∷ 256 ∷ 17 ∷ [])
    ∷ rules_found_are sixteen (16 ∷ 2 ∷ 1 ∷ 17 ∷ []) (2 ∷ 1 ∷ 0 ∷ [])
    ∷ rules_told_are sixteen (16 ∷ 2 ∷ [])
    (told 0 2 1 3 1 ∷ told 1 2 1 3 0 ∷ replicate 13 (told 0 2 1 3 1) ++ (told 1 2 1 3 0 ∷ []))
    ∷ rules_told_are (rule aac 0 ∷ rule (b ∷ []) 0 ∷ []) [] (and_nothing (told 0 0 3 0 1 ∷ told 0 0 1 0 1 ∷ []))
    ∷ rules_needed_are (rule aac 0 ∷ []) (needed 3)
    ∷ rules_needed_are (replicate 16 (rule (replicate 128 a) 0)) (room 2064 2064 524288 2048)
    ∷ rules_found_are (rule acaca 4 ∷ rule (c ∷ a ∷ cac) 0 ∷ []) (a ∷ c ∷ []) (0 ∷ 1 ∷ [])
    ∷ rule_frames_are (rule acaca 4 ∷ rule (c ∷ a ∷ cac) 0 ∷ []) (a ∷ c ∷ []) (256 ∷ 512 ∷ [])
    ∷ rule_frames_are (rule (a ∷ c ∷ []) 1 ∷ rule aac 0 ∷ []) (c ∷ a ∷ a ∷ []) (256 ∷ 512 ∷ a ∷ [])
    ∷ rules_cost_is (rule (a ∷ c ∷ []) 1 ∷ rule aac 0 ∷ []) (c ∷ a ∷ a ∷ []) 98
    ∷ rules_cost_is (rule (a ∷ c ∷ []) 1 ∷ rule (b ∷ []) 0 ∷ []) (c ∷ a ∷ a ∷ []) 58
    ∷ rules_cost_is a_and_c [] 0
    ∷ [])
    -- 12: two rules claiming the same card of this ring, also over the seam. Equal rules, a rule
    -- inside another, equal motifs with two hold places; one rule alone claims no card twice. Rules
    -- that can meet need not meet on this ring
    ∷ row 45
    (claimed_twice_is (rule aacaa 2 ∷ rule (c ∷ []) 0 ∷ []) listing true
    ∷ claimed_twice_is (rule aacaa 1 ∷ rule (c ∷ []) 0 ∷ []) listing false
    ∷ claimed_twice_is (third (c ∷ a ∷ []) 1) listing false
    ∷ claimed_twice_is (third (a ∷ c ∷ []) 1) listing true
    ∷ claimed_twice_is a_twice (c ∷ a ∷ []) true
    ∷ claimed_twice_is a_twice (c ∷ []) false
    ∷ claimed_twice_is a_twice [] false
    ∷ claimed_twice_is (rule (a ∷ c ∷ []) 0 ∷ rule (a ∷ c ∷ []) 1 ∷ []) acaca false
    ∷ claimed_twice_is (rule (a ∷ a ∷ []) 0 ∷ rule (a ∷ a ∷ []) 1 ∷ []) (a ∷ a ∷ []) true
    ∷ claimed_twice_is (rule aac 2 ∷ rule (c ∷ a ∷ []) 0 ∷ []) (c ∷ a ∷ a ∷ []) true
    ∷ claimed_twice_is (rule aac 1 ∷ rule (c ∷ a ∷ []) 0 ∷ []) (c ∷ a ∷ a ∷ []) false
    ∷ claimed_twice_is (rule aac 2 ∷ rule (a ∷ c ∷ []) 1 ∷ []) (c ∷ a ∷ a ∷ []) true
    ∷ claimed_twice_is (rule acaca 4 ∷ rule (a ∷ []) 0 ∷ []) (a ∷ c ∷ []) true
    ∷ claimed_twice_is (rule (a ∷ []) 0 ∷ rule (b ∷ []) 0 ∷ rule (c ∷ a ∷ []) 1 ∷ []) (c ∷ a ∷ []) true
    ∷ claimed_twice_is (rule aaaa 3 ∷ []) (replicate 6 a) false
    ∷ claimed_twice_is sixteen (16 ∷ 2 ∷ 1 ∷ 17 ∷ []) false
    ∷ can_meet_is (rule aacaa 2) (rule (c ∷ []) 0) true
    ∷ can_meet_is (rule aacaa 1) (rule (c ∷ []) 0) false
    ∷ can_meet_is (rule (a ∷ c ∷ []) 0) (rule (b ∷ a ∷ []) 1) true
    ∷ can_meet_is (rule (a ∷ c ∷ []) 0) (rule (a ∷ b ∷ []) 0) false
    ∷ can_meet_is (rule (c ∷ a ∷ []) 1) (rule (b ∷ a ∷ []) 1) false
    ∷ can_meet_is (rule (c ∷ a ∷ []) 1) (rule (a ∷ b ∷ []) 0) true
    ∷ [])
    -- Every search with the whole table: 11, 4, 5, 6, 7 by n entries for finds and by the sum of
    -- the rules' sizes for each table, and 12 after 7. Each of the refused ones meets the later
    -- conditions too, and one entry fewer in a buffer gives 7
    ∷ row 46
    (searching_rules_gives (table a_and_c) cac (room 4 4 512 2) 3 0
    ∷ searching_rules_gives (17 ∷ []) (replicate 16385 a) no_room 0 11
    ∷ searching_rules_gives (table (rule [] 0 ∷ [])) (replicate 16385 a) no_room 0 4
    ∷ searching_rules_gives (table (rule (a ∷ []) 1 ∷ [])) (replicate 16385 a) no_room 0 5
    ∷ searching_rules_gives (table a_twice) (replicate 16385 a) no_room 0 6
    ∷ searching_rules_gives (table a_twice) (a ∷ []) (room 3 4 512 2) 1 7
    ∷ searching_rules_gives (table a_twice) (a ∷ []) (room 4 3 512 2) 1 7
    ∷ searching_rules_gives (table a_twice) (a ∷ []) (room 4 4 511 2) 1 7
    ∷ searching_rules_gives (table a_twice) (a ∷ []) (room 4 4 512 1) 1 7
    ∷ searching_rules_gives (table a_twice) (a ∷ []) (room 4 4 512 2) 0 7
    ∷ searching_rules_gives (table a_twice) (a ∷ []) (room 4 4 512 2) 1 12
    ∷ searching_rules_gives (table a_twice) (c ∷ []) (room 4 4 512 2) 1 0
    ∷ searching_rules_gives (table sixteen) (16 ∷ []) (room 32 32 4096 16) 1 0
    ∷ searching_rules_gives (table sixteen) (16 ∷ []) (room 32 32 4095 16) 1 7
    ∷ converting_rules_gives (table a_and_c) cac (room 4 4 512 2) 3 3 0
    ∷ converting_rules_gives [] (replicate 16385 a) no_room 0 0 11
    ∷ converting_rules_gives (1 ∷ []) (replicate 16385 a) no_room 0 0 4
    ∷ converting_rules_gives (table (rule (a ∷ []) 1 ∷ rule [] 0 ∷ [])) (replicate 16385 a) no_room 0 0 5
    ∷ converting_rules_gives (table a_twice) (replicate 16385 a) no_room 0 0 6
    ∷ converting_rules_gives (table a_twice) (a ∷ []) (room 4 4 512 1) 1 1 7
    ∷ converting_rules_gives (table a_twice) (a ∷ []) (room 4 4 512 2) 0 1 7
    ∷ converting_rules_gives (table a_twice) (a ∷ []) (room 4 4 512 2) 1 0 7
    ∷ converting_rules_gives (table a_twice) (a ∷ []) (room 4 4 512 2) 1 1 12
    ∷ [])
    -- Whole calls of searching, converting and pricing with a table, done and refused. A buffer
    -- that is filled has an entry more than is needed
    ∷ row 47
    (searching_rules_leaves (table a_and_c) cac lent_to_two left_by_two (replicate 4 9) (1 ∷ 0 ∷ 2 ∷ 9 ∷ [])
    (rules_answer 0 (told 1 3 1 5 0 ∷ told 2 3 1 5 0 ∷ []))
    ∷ searching_rules_leaves (table a_and_c) (c ∷ []) lent_to_two left_by_two (9 ∷ 9 ∷ []) (0 ∷ 9 ∷ [])
    (rules_answer 0 (told 0 1 1 1 1 ∷ told 1 1 1 1 0 ∷ []))
    ∷ searching_rules_leaves (table a_twice) (a ∷ []) lent_to_two lent_to_two (9 ∷ []) (9 ∷ []) (rules_refused 12)
    ∷ searching_rules_leaves (table a_twice) (a ∷ a ∷ []) lent_to_two lent_to_two (9 ∷ []) (9 ∷ []) (rules_refused 7)
    ∷ converting_rules_leaves (table a_and_c) cac lent_to_two left_by_two (replicate 4 9) (1 ∷ 0 ∷ 2 ∷ 9 ∷ [])
    (replicate 4 9) (512 ∷ 256 ∷ 512 ∷ 9 ∷ []) (rules_answer 6 (told 1 3 1 5 0 ∷ told 2 3 1 5 0 ∷ []))
    ∷ converting_rules_leaves (table (rule (c ∷ []) 0 ∷ [])) cac lent_to_one left_by_one (replicate 4 9)
    (0 ∷ 2 ∷ 9 ∷ 9 ∷ [])
    (replicate 4 9) (256 ∷ a ∷ 256 ∷ 9 ∷ []) (rules_answer 6 (told 2 3 1 5 0 ∷ []))
    ∷ converting_rules_leaves (table a_and_c) [] lent_to_two left_by_two [] [] [] []
    (rules_answer 0 (told 0 0 1 0 1 ∷ told 0 0 1 0 1 ∷ []))
    ∷ converting_rules_leaves (table a_twice) (a ∷ []) lent_to_two lent_to_two (9 ∷ []) (9 ∷ []) (9 ∷ []) (9 ∷ [])
    (rules_refused 12)
    ∷ converting_rules_leaves (17 ∷ []) [] lent_to_two lent_to_two [] [] [] [] (rules_refused 11)
    ∷ pricing_rules_leaves (table a_and_c) cac lent_to_two left_by_two (replicate 4 9) (1 ∷ 0 ∷ 2 ∷ 9 ∷ [])
    (price_answered 0 138)
    ∷ pricing_rules_leaves (table (rule (c ∷ []) 0 ∷ [])) cac lent_to_one left_by_one (replicate 4 9)
    (0 ∷ 2 ∷ 9 ∷ 9 ∷ [])
    (price_answered 0 98)
    ∷ pricing_rules_leaves (table a_twice) (a ∷ []) lent_to_two lent_to_two (9 ∷ []) (9 ∷ []) (price_answered 12 0)
    ∷ pricing_rules_leaves (table a_twice) (a ∷ []) lent_to_two lent_to_two [] [] (price_answered 7 0)
    ∷ [])
    -- Putting back uses the named rule's card; a frame that names no rule there gives 9, and so do
    -- frames whose cards would give 12, after 7. A hold where its rule finds nothing, a move where
    -- it does, and a hold of another rule
    ∷ row 48
    (restored_by_rules_are a_and_c (512 ∷ 256 ∷ b ∷ 512 ∷ []) (c ∷ a ∷ b ∷ c ∷ [])
    ∷ restored_by_rules_are (rule acaca 4 ∷ rule (c ∷ a ∷ cac) 0 ∷ []) (256 ∷ 512 ∷ []) (a ∷ c ∷ [])
    ∷ restored_by_rules_are sixteen (4096 ∷ 512 ∷ 256 ∷ 17 ∷ []) (16 ∷ 2 ∷ 1 ∷ 17 ∷ [])
    ∷ restoring_by_rules_gives (table a_and_c) (512 ∷ 256 ∷ b ∷ 512 ∷ []) 4 0
    ∷ restoring_by_rules_gives (table three_rules) (a ∷ 768 ∷ 256 ∷ a ∷ a ∷ 768 ∷ 256 ∷ a ∷ a ∷ []) 9 0
    ∷ restoring_by_rules_gives (table (rule (c ∷ []) 0 ∷ [])) (256 ∷ []) 1 0
    ∷ restoring_by_rules_gives (table (rule (c ∷ []) 0 ∷ [])) (512 ∷ []) 1 9
    ∷ restoring_by_rules_gives (table a_and_c) (768 ∷ []) 1 9
    ∷ restoring_by_rules_gives (table a_and_c) (257 ∷ []) 1 9
    ∷ restoring_by_rules_gives (table a_and_c) (511 ∷ []) 1 9
    ∷ restoring_by_rules_gives (table sixteen) (4096 ∷ []) 1 0
    ∷ restoring_by_rules_gives (table sixteen) (4352 ∷ []) 1 9
    ∷ restoring_by_rules_gives (table a_twice) (256 ∷ []) 1 9
    ∷ restoring_by_rules_gives (table a_twice) (512 ∷ []) 1 9
    ∷ restoring_by_rules_gives (table a_twice) (a ∷ []) 1 9
    ∷ restoring_by_rules_gives (table a_twice) (c ∷ []) 1 0
    ∷ restoring_by_rules_gives (table a_and_c) (a ∷ []) 1 9
    ∷ restoring_by_rules_gives (table (rule (a ∷ []) 0 ∷ rule (a ∷ c ∷ []) 1 ∷ [])) (512 ∷ []) 1 9
    ∷ restoring_by_rules_gives (table (rule (c ∷ b ∷ []) 0 ∷ rule (c ∷ a ∷ []) 0 ∷ [])) (256 ∷ a ∷ []) 2 9
    ∷ restoring_by_rules_gives (table (rule (c ∷ b ∷ []) 0 ∷ rule (c ∷ a ∷ []) 0 ∷ [])) (512 ∷ a ∷ []) 2 0
    ∷ restoring_by_rules_gives (17 ∷ []) (replicate 16385 257) 0 11
    ∷ restoring_by_rules_gives (1 ∷ []) (replicate 16385 257) 0 4
    ∷ restoring_by_rules_gives (1 ∷ 1 ∷ 1 ∷ []) (replicate 16385 257) 0 5
    ∷ restoring_by_rules_gives (table a_and_c) (replicate 16385 257) 0 6
    ∷ restoring_by_rules_gives (table a_and_c) (257 ∷ []) 0 7
    ∷ restoring_by_rules_gives (table a_and_c) [] 0 0
    ∷ restoring_by_rules_leaves (table a_and_c) (512 ∷ 256 ∷ []) (1 ∷ 1 ∷ 1 ∷ []) (c ∷ a ∷ 1 ∷ []) (zeros_beside 0)
    ∷ restoring_by_rules_leaves (table a_and_c) (768 ∷ 256 ∷ []) (1 ∷ 1 ∷ 1 ∷ []) (1 ∷ 1 ∷ 1 ∷ []) (zeros_beside 9)
    ∷ restoring_by_rules_leaves (table a_twice) (256 ∷ []) (1 ∷ []) (1 ∷ []) (zeros_beside 9)
    ∷ [])
    -- An explanation is for one rule, named by its number, or 11; its buffers need that rule's
    -- sizes only, and no card's being claimed twice matters to it
    ∷ row 49
    (explaining_rule_gives (table (rule aacaa 2 ∷ rule (c ∷ []) 0 ∷ [])) 1 9 8 (needed 5) 0
    ∷ explaining_rule_gives (table (rule aacaa 2 ∷ rule (c ∷ []) 0 ∷ [])) 2 9 8 (needed 1) 0
    ∷ explaining_rule_gives (table (rule aacaa 2 ∷ rule (c ∷ []) 0 ∷ [])) 1 9 9 (needed 1) 7
    ∷ explaining_rule_gives (table (rule aacaa 2 ∷ rule (c ∷ []) 0 ∷ [])) 2 9 9 (room 2 2 255 1) 7
    ∷ explaining_rule_gives (table (rule aacaa 2 ∷ rule (c ∷ []) 0 ∷ [])) 2 9 9 (needed 1) 10
    ∷ explaining_rule_gives (table a_and_c) 1 16385 16385 no_room 6
    ∷ explaining_rule_gives (table a_and_c) 0 16385 16385 no_room 11
    ∷ explaining_rule_gives (table a_and_c) 3 16385 16385 no_room 11
    ∷ explaining_rule_gives (2 ∷ []) 3 16385 16385 no_room 11
    ∷ explaining_rule_gives (2 ∷ []) 1 16385 16385 no_room 4
    ∷ explaining_rule_gives (table (rule (c ∷ []) 0 ∷ rule (a ∷ []) 1 ∷ [])) 1 16385 16385 no_room 5
    ∷ explaining_rule_leaves 2 2 (table a_and_c) cac lent_to_one left_by_one (explain_answered 0 1 0 0 0)
    ∷ explaining_rule_leaves 1 2 (table a_and_c) cac lent_to_one left_by_one (explain_answered 0 2 0 0 0)
    ∷ explaining_rule_leaves 2 0 (table a_twice) (a ∷ []) lent_to_one left_by_one (explain_answered 0 1 0 0 0)
    ∷ explaining_rule_leaves 3 0 (table a_twice) (a ∷ []) lent_to_one lent_to_one (explain_answered 11 0 0 0 0)
    ∷ [])
    -- A table and a ring turned alike, and a ring started later. The two rings of demand 3 are
    -- compared rule by rule: the search for a c looks at place 0 of neither a a c nor b a c, and so
    -- tells the same of both, and that for b finds it there
    ∷ row 50
    (turned_rules_are 3 (rule (b ∷ a ∷ []) 0 ∷ rule aac 2 ∷ [])
    (rule (0x60 ∷ 0x80 ∷ []) 1 ∷ rule (0x18 ∷ 0x60 ∷ 0x60 ∷ []) 0 ∷ [])
    ∷ turned_rules_are 2 ac_and_b (rule (c ∷ a ∷ []) 0 ∷ rule (b ∷ []) 0 ∷ [])
    ∷ rule_frames_are ac_and_b bac (512 ∷ a ∷ 256 ∷ [])
    ∷ rule_frames_are (rule (c ∷ a ∷ []) 0 ∷ rule (b ∷ []) 0 ∷ []) (turned 2 bac) (256 ∷ a ∷ 512 ∷ [])
    ∷ rule_frames_are ac_and_b (rotated 1 bac) (a ∷ 256 ∷ 512 ∷ [])
    ∷ both_searched_by_rules 2 (table ac_and_b) aac searched_by_ac_and_b
    (rules_call searched_by_ac_and_b.left (buffers left_by_ac_and_b (2 ∷ 9 ∷ 9 ∷ []) [])
    (rules_answer 0 (told 1 4 2 6 0 ∷ told 0 3 1 5 1 ∷ [])))
    ∷ both_paired_by_rule 1 (table ac_and_b) aac bac searched_by_ac_and_b
    (rules_call searched_by_ac_and_b.left (buffers left_by_ac_and_b (1 ∷ 0 ∷ 9 ∷ []) [])
    (rules_answer 0 (told 1 3 2 6 0 ∷ told 1 3 1 5 0 ∷ [])))
    ∷ both_paired_by_rule 1 (table ac_and_b) aac bac
    (rules_call (buffers (lent (room 5 5 768 3)) (replicate 3 9) (replicate 4 9))
    (buffers left_by_ac_and_b (1 ∷ 9 ∷ 9 ∷ []) (a ∷ a ∷ 256 ∷ 9 ∷ []))
    (rules_answer 6 (told 1 3 2 6 0 ∷ told 0 3 1 5 1 ∷ [])))
    (rules_call (buffers left_by_ac_and_b (1 ∷ 9 ∷ 9 ∷ []) (a ∷ a ∷ 256 ∷ 9 ∷ []))
    (buffers left_by_ac_and_b (1 ∷ 0 ∷ 9 ∷ []) (512 ∷ a ∷ 256 ∷ 9 ∷ []))
    (rules_answer 5 (told 1 3 2 6 0 ∷ told 1 3 1 5 0 ∷ [])))
    ∷ both_turned_by_rules 3 (table ac_and_b) (table ac_and_b_turned) bac
    (rules_call (buffers left_by_ac_and_b (replicate 3 9) (replicate 3 9))
    (buffers left_by_ac_and_b (1 ∷ 0 ∷ 9 ∷ []) (512 ∷ a ∷ 256 ∷ []))
    (rules_answer 5 (told 1 3 2 6 0 ∷ told 1 3 1 5 0 ∷ [])))
    (rules_call (buffers left_by_ac_and_b (replicate 3 9) (replicate 3 9))
    (buffers left_by_ac_and_b_turned (0 ∷ 2 ∷ 9 ∷ []) (256 ∷ 0x60 ∷ 512 ∷ []))
    (rules_answer 5 (told 1 3 2 6 0 ∷ told 1 3 1 5 0 ∷ [])))
    -- what the laws of whole calls ask of a table of one rule, of buffers and of a price can be met
    ∷ one_rule_is (table (rule (a ∷ c ∷ []) 1 ∷ [])) (a ∷ c ∷ []) 1
    ∷ room_for_rules three_rules 9 (buffers (lent (room 11 11 2048 8)) (replicate 9 9) (replicate 9 9))
    ∷ priced_by_rules (table ac_and_b) aac (priced_by_ac_and_b 58)
    ∷ [])
    -- One wrong claim of each kind of a table, in the order of the kinds, then some that are wrong
    -- in another part
    ∷ row 51
    (map refuted
    (rules_give (17 ∷ []) 0
    ∷ rules_are (table a_and_c) (rule (a ∷ []) 0 ∷ [])
    ∷ naming_gives (table a_and_c) 3 0
    ∷ editing_gives (table a_and_c) 1 128 127 7
    ∷ editing_leaves 1 0 (c ∷ []) (1 ∷ 1 ∷ 0 ∷ a ∷ []) (1 ∷ 1 ∷ 0 ∷ a ∷ []) (zeros_beside 0)
    ∷ rule_frames_are a_and_c (c ∷ []) (256 ∷ [])
    ∷ rules_found_are a_and_c (c ∷ a ∷ []) (0 ∷ 1 ∷ [])
    ∷ rules_told_are (rule (b ∷ []) 0 ∷ []) (a ∷ []) (and_nothing (told 0 1 1 1 0 ∷ []))
    ∷ rules_needed_are a_and_c (needed 1)
    ∷ rules_cost_is a_and_c cac 98
    ∷ can_meet_is (rule (a ∷ []) 0) (rule (a ∷ []) 0) false
    ∷ claimed_twice_is a_twice (a ∷ []) false
    ∷ searching_rules_gives (table a_twice) (a ∷ []) (room 4 4 512 2) 1 0
    ∷ converting_rules_gives (table a_twice) (a ∷ []) (room 4 4 512 2) 1 0 12
    ∷ searching_rules_leaves (table a_and_c) [] lent_to_two left_by_two (9 ∷ []) (9 ∷ [])
    (rules_answer 0 (told 0 0 1 0 1 ∷ told 0 0 1 0 0 ∷ []))
    ∷ converting_rules_leaves (table a_and_c) (c ∷ []) lent_to_two left_by_two (9 ∷ []) (0 ∷ []) (9 ∷ []) (256 ∷ [])
    (rules_answer 2 (told 0 1 1 1 1 ∷ told 1 1 1 1 0 ∷ []))
    ∷ pricing_rules_leaves (table a_and_c) (c ∷ []) lent_to_two left_by_two (9 ∷ []) (0 ∷ []) (price_answered 0 6)
    ∷ restored_by_rules_are a_and_c (512 ∷ []) (a ∷ [])
    ∷ restoring_by_rules_gives (table a_twice) (256 ∷ []) 1 12
    ∷ restoring_by_rules_leaves (table a_and_c) (512 ∷ []) (1 ∷ []) (1 ∷ []) (zeros_beside 0)
    ∷ explaining_rule_gives (table a_and_c) 0 1 0 (needed 1) 0
    ∷ explaining_rule_leaves 2 0 (table a_twice) (a ∷ []) lent_to_one left_by_one (explain_answered 12 0 0 0 0)
    ∷ turned_rules_are 2 (rule aac 2 ∷ []) (rule (c ∷ a ∷ a ∷ []) 2 ∷ [])
    ∷ both_searched_by_rules 2 (table ac_and_b) aac searched_by_ac_and_b
    (rules_call searched_by_ac_and_b.left searched_by_ac_and_b.left (rules_refused 12))
    ∷ both_paired_by_rule 2 (table ac_and_b) aac bac searched_by_ac_and_b searched_by_ac_and_b
    ∷ both_turned_by_rules 1 (table ac_and_b) (table ac_and_b_turned) aac searched_by_ac_and_b searched_by_ac_and_b
    ∷ editing_leaves 2 0 (c ∷ []) (1 ∷ 1 ∷ 0 ∷ a ∷ []) (1 ∷ 1 ∷ 0 ∷ a ∷ []) (zeros_beside 0)
    ∷ searching_rules_leaves (table a_and_c) (c ∷ []) lent_to_two left_by_two (9 ∷ []) (9 ∷ [])
    (rules_answer 0 (told 0 1 1 1 1 ∷ told 1 1 1 1 0 ∷ []))
    ∷ converting_rules_leaves (table a_and_c) [] lent_to_two lent_to_two [] [] [] []
    (rules_answer 0 (told 0 0 1 0 1 ∷ told 0 0 1 0 1 ∷ []))
    ∷ pricing_rules_leaves (table a_and_c) [] lent_to_two lent_to_two [] [] (price_answered 0 0)
    ∷ restoring_by_rules_leaves (table a_twice) (256 ∷ []) (1 ∷ []) (1 ∷ []) (zeros_beside 12)
    ∷ explaining_rule_leaves 2 2 (table a_and_c) cac lent_to_one lent_to_one (explain_answered 0 1 0 0 0)
    ∷ one_rule_is (table a_and_c) (a ∷ []) 0
    ∷ room_for_rules three_rules 9 (buffers (lent (room 10 11 2048 8)) (replicate 9 9) (replicate 9 9))
    ∷ priced_by_rules (table ac_and_b) aac (priced_by_ac_and_b 59)
    ∷ []))
    -- Document 02, "Who may do what": roles are 0 draughtswoman, 1 mender, 2 minder. The
    -- draughtswoman may do all, the mender all but edit, the minder only convert and explain; a
    -- role above 2 may do nothing, also one that is 0, 1 or 2 in its last byte
    ∷ row 52
    (permitted_is 0 Convert true
    ∷ permitted_is 0 Restore true
    ∷ permitted_is 0 Explain true
    ∷ permitted_is 0 Price true
    ∷ permitted_is 0 Edit true
    ∷ permitted_is 1 Convert true
    ∷ permitted_is 1 Restore true
    ∷ permitted_is 1 Explain true
    ∷ permitted_is 1 Price true
    ∷ permitted_is 1 Edit false
    ∷ permitted_is 2 Convert true
    ∷ permitted_is 2 Restore false
    ∷ permitted_is 2 Explain true
    ∷ permitted_is 2 Price false
    ∷ permitted_is 2 Edit false
    ∷ permitted_is 3 Convert false
    ∷ permitted_is 3 Explain false
    ∷ permitted_is 256 Edit false
    ∷ permitted_is 257 Price false
    ∷ permitted_is 258 Convert false
    ∷ permitted_is 0xFFFFFFFF Convert false
    ∷ [])
    -- A permitted call answers exactly as without roles. One that is not permitted gives 13 before
    -- every other number, whatever its table, and leaves its buffers and the table
    ∷ row 53
    (behind_role_gives 0 Edit 0 0
    ∷ behind_role_gives 0 Edit 11 11
    ∷ behind_role_gives 1 Edit 0 13
    ∷ behind_role_gives 1 Edit 11 13
    ∷ behind_role_gives 1 Price 12 12
    ∷ behind_role_gives 2 Price 12 13
    ∷ behind_role_gives 3 Convert 4 13
    ∷ stands_behind 0 Edit true true false 0
    ∷ stands_behind 1 Edit true false true 13
    ∷ converting_as_leaves 2 (table a_and_c) cac lent_to_two left_by_two (replicate 4 9) (1 ∷ 0 ∷ 2 ∷ 9 ∷ [])
    (replicate 4 9) (512 ∷ 256 ∷ 512 ∷ 9 ∷ []) (rules_answer 6 (told 1 3 1 5 0 ∷ told 2 3 1 5 0 ∷ []))
    ∷ converting_as_leaves 2 (17 ∷ []) [] lent_to_two lent_to_two [] [] [] [] (rules_refused 11)
    ∷ converting_as_leaves 3 (table a_and_c) cac lent_to_two lent_to_two (replicate 4 9) (replicate 4 9)
    (replicate 4 9) (replicate 4 9) (rules_refused 13)
    ∷ converting_as_leaves 3 (17 ∷ []) (replicate 16385 a) (lent no_room) (lent no_room) [] [] [] [] (rules_refused 13)
    ∷ restoring_as_leaves 1 (table a_and_c) (512 ∷ 256 ∷ []) (1 ∷ 1 ∷ 1 ∷ []) (c ∷ a ∷ 1 ∷ []) (zeros_beside 0)
    ∷ restoring_as_leaves 1 (table a_and_c) (768 ∷ []) (1 ∷ []) (1 ∷ []) (zeros_beside 9)
    ∷ restoring_as_leaves 2 (table a_and_c) (512 ∷ 256 ∷ []) (1 ∷ 1 ∷ 1 ∷ []) (1 ∷ 1 ∷ 1 ∷ []) (zeros_beside 13)
    ∷ restoring_as_leaves 2 (17 ∷ []) (257 ∷ []) [] [] (zeros_beside 13)
    ∷ explaining_as_leaves 2 2 2 (table a_and_c) cac lent_to_one left_by_one (explain_answered 0 1 0 0 0)
    ∷ explaining_as_leaves 2 3 2 (table a_and_c) cac lent_to_one lent_to_one (explain_answered 11 0 0 0 0)
    ∷ explaining_as_leaves 3 2 2 (table a_and_c) cac lent_to_one lent_to_one (explain_answered 13 0 0 0 0)
    ∷ explaining_as_leaves 3 3 9 (17 ∷ []) cac (lent no_room) (lent no_room) (explain_answered 13 0 0 0 0)
    ∷ pricing_as_leaves 1 (table a_and_c) cac lent_to_two left_by_two (replicate 4 9) (1 ∷ 0 ∷ 2 ∷ 9 ∷ [])
    (price_answered 0 138)
    ∷ pricing_as_leaves 1 (table a_twice) (a ∷ []) lent_to_two lent_to_two (9 ∷ []) (9 ∷ []) (price_answered 12 0)
    ∷ pricing_as_leaves 2 (table a_and_c) cac lent_to_two lent_to_two (replicate 4 9) (replicate 4 9)
    (price_answered 13 0)
    ∷ pricing_as_leaves 2 (17 ∷ []) cac (lent no_room) (lent no_room) [] [] (price_answered 13 0)
    ∷ editing_as_leaves 0 2 2 aac (table a_and_c) (table (rule (a ∷ []) 0 ∷ rule aac 2 ∷ [])) (zeros_beside 0)
    ∷ editing_as_leaves 0 3 2 aac (table a_and_c) (table a_and_c) (zeros_beside 11)
    ∷ editing_as_leaves 1 2 2 aac (table a_and_c) (table a_and_c) (zeros_beside 13)
    ∷ editing_as_leaves 2 0 0 [] (17 ∷ []) (17 ∷ []) (zeros_beside 13)
    ∷ [])
    -- At least one wrong claim of each kind of a role, in the order of the kinds; of what it is to
    -- stand behind a role one for each part
    ∷ row 54
    (map refuted
    (permitted_is 1 Edit true
    ∷ behind_role_gives 2 Price 11 11
    ∷ stands_behind 0 Edit false true true 0
    ∷ stands_behind 1 Edit false true true 13
    ∷ stands_behind 0 Edit true true true 13
    ∷ converting_as_leaves 3 (table a_and_c) [] lent_to_two left_by_two [] [] [] [] (rules_refused 13)
    ∷ restoring_as_leaves 2 (table a_and_c) (512 ∷ []) (1 ∷ []) (c ∷ []) (zeros_beside 13)
    ∷ restoring_as_leaves 2 (17 ∷ []) (257 ∷ []) [] [] (zeros_beside 11)
    ∷ explaining_as_leaves 3 2 0 (table a_and_c) (c ∷ []) lent_to_one lent_to_one (explain_answered 0 0 0 0 0)
    ∷ pricing_as_leaves 2 (table a_and_c) [] lent_to_two lent_to_two (9 ∷ []) (9 ∷ []) (price_answered 0 0)
    ∷ editing_as_leaves 1 1 0 (c ∷ []) (1 ∷ 1 ∷ 0 ∷ a ∷ []) (1 ∷ 1 ∷ 0 ∷ c ∷ []) (zeros_beside 13)
    ∷ []))
    ∷ []

-- each member of a list has a property
unfoldable pub All : {A : Type 0} → (P : A → Type 0) → List A → Type 0
All P [] = Unit {0}
All P (x ∷ xs) = P x × All P xs

-- the common statement: every claim of every row holds
unfoldable pub AllHold : List Example → Type 0
AllHold rows = All (λ (r : Example). All Holds r.claims) rows
