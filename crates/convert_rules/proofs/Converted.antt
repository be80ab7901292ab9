-- What converting with a table of rules answers and leaves, put together from what its parts do:
-- what it is that it is taken, refused, and done. The parts are the measuring, the searches and the
-- frames.
use mathlib.Core.Bool.{◌||◌}
use mathlib.Core.List.{List, [], ◌∷◌}
use mathlib.Core.Path.{◌≡◌, refl, sym, ◌∙◌}
use Prim.Native.Nat.{ℕ, ◌≤◌}
use native.Mathlib.Omega.{arith}
use borrow.Author.Tests.{ltb-false}
use lib.Dec.{ltb}
use lib.ListN.{length, take}
use Rattle.answers.proofs.Answered.{refused_only}
use Rattle.answers.proofs.Fronts.{in_front_take}
use Rattle.answers.specs.Answers.{if_done}
use Rattle.answers.specs.Buffers.{in_front}
use Rattle.answers.specs.Refusals.{buffer_refusal}
use Rattle.tables.specs.Buffers.{Tables, lengths}
use Rattle.tables.specs.declared.TableLengths.{TableLengths}
use Rattle.ones.specs.Ones.{ones_of}
use Rattle.rules.proofs.Taken.{table_patterned}
use Rattle.rules.specs.Buffers.{one_after_another, all_tables_left}
use Rattle.rules.specs.Rules.{Rule, rules_of, table_size}
use Rattle.rules_answers.proofs.Answered.{refused_answer, done_only}
use Rattle.rules_answers.specs.Answers.{rules_done, rules_refused, rules_answered}
use Rattle.rules_answers.specs.declared.RuleAnswer.{RuleAnswer}
use Rattle.rules_claims.proofs.Few.{few_found}
use Rattle.rules_claims.specs.Claims.{found_of}
use Rattle.rules_claims.specs.Promises.{FewFound}
use Rattle.rules_frames.proofs.Marked.{length_rule_frames}
use Rattle.rules_frames.specs.RuleFrames.{rule_frames}
use Rattle.rules_frames.specs.Within.{RuleFramesReady}
use Rattle.rules_searches.specs.Searches.{RulesSearched}
use Rattle.rules_status.proofs.Measured.{MeasuredTaken, search_taken, measured_both}
use Rattle.rules_status.specs.Measured.{measured_status}
use Rattle.search_rules.specs.SearchRules.{all_found_left}
use Rattle.convert_rules.specs.ConvertRules.{convert_rules_status, rule_frames_left, ConvertRulesOutcomeOf}
use Rattle.convert_rules.specs.Paired.{RulesCall, ConvertsRules, RulesTaken}

-- the buffers for finds and for frames are measured together
pub status_is :
    (x t : List ℕ) (found frames : ℕ) {s : ℕ} {l l' : TableLengths} →
    s ≡ measured_status x t l (ltb found (length t) || ltb frames (length t)) → l ≡ l' →
    s ≡ convert_rules_status x t l' found frames
unfolding convert_rules_status
status_is x t found frames {l' = l'} measured e = rw e at measured ∙ sym (measured_both x t l' found frames (length t))

-- a text is converted: what every search with a table asks, and room for n occurrences and n frames
pub record ConversionTaken (x t : List ℕ) (l : TableLengths) (found_len frames_len : ℕ) : Type 0 where
  pub measured : MeasuredTaken x t l (buffer_refusal found_len (length t) ∷ buffer_refusal frames_len (length t) ∷ [])
  pub found_room : length t ≤ found_len
  pub frames_room : length t ≤ frames_len

-- a measured status of 0 says so
pub conversion_taken :
    {x t : List ℕ} {found frames : ℕ} {l l' : TableLengths} → length x ≡ table_size →
    0 ≡ measured_status x t l (ltb found (length t) || ltb frames (length t)) → l ≡ l' →
    ConversionTaken x t l' found frames
unfolding convert_rules_status
conversion_taken {x} {t} {found} {frames} size measured e =
    let m = search_taken x t _ _ size (omega arith) (sym (status_is x t found frames measured e)) in
    record {
      measured = m;
      found_room = ltb-false _ _ m.own_room.0;
      frames_room = ltb-false _ _ m.own_room.1.0;
    }

-- a refused call answers its status and leaves every buffer
pub refused :
    {rs : List Rule} {t : List ℕ} {lent : Tables} {found frame : List ℕ} (s : ℕ) → (s ≡ 0 → ⊥) →
    ConvertRulesOutcomeOf s rs t lent lent found found frame frame (rules_refused s)
unfolding all_tables_left all_found_left rule_frames_left
refused {rs} {t} {lent} {found} {frame} s h =
    record {
      answer = refused_answer s (rules_done rs t (ones_of t)) h;
      tables = refused_only s _ lent h;
      occurrences_left = refused_only s _ found h;
      moves_and_holds_left = refused_only s _ frame h;
    }

module _
    {x t : List ℕ} {lent left : Tables} {found found' frame : List ℕ} {answers : List RuleAnswer}
    (fit : ConversionTaken x t (lengths lent) (length found) (length frame))
    (searched : RulesSearched x t lent left found found' answers)
  where
    -- the frames can be written
    pub frames_ready : RuleFramesReady x t answers found' frame
    unfolding FewFound
    frames_ready =
        let all = one_after_another (found_of t) (rules_of x) in
        let m = fit.measured in
        record {
          told = searched.answers;
          listed = rw searched.occurrences_left (in_front_take all found (length all) refl);
          few = few_found (rules_of x) t (λ none. table_patterned x m.table) m.once;
          room = fit.frames_room;
        }

    -- a call that is done
    pub done :
        {frame' : List ℕ} → frame' ≡ in_front (rule_frames (rules_of x) t) frame →
        ConvertRulesOutcomeOf 0 (rules_of x) t lent left found found' frame frame'
        (record { status = 0; ones = ones_of t; rules = answers })
    unfolding if_done rules_answered all_tables_left all_found_left rule_frames_left
    done written =
        record {
          answer = rw searched.answers;
          tables = searched.tables;
          occurrences_left = searched.occurrences_left;
          moves_and_holds_left = written;
        }

-- a conversion that is taken leaves the frames in front of its buffer
pub frames_by :
    (x : List ℕ) {t : List ℕ} {c : RulesCall} → ConvertsRules x t c → RulesTaken c →
    take (length t) c.left.frames ≡ rule_frames (rules_of x) t
unfolding if_done rule_frames_left
frames_by x {t} {c} h e =
    rw (h.moves_and_holds_left, done_only _ (rules_done (rules_of x) t (ones_of t)) h.answer e)
    (in_front_take (rule_frames (rules_of x) t) c.lent.frames (length t) (length_rule_frames (rules_of x) t))
