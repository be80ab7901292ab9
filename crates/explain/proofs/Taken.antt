-- What explaining answers and leaves, put together from what its parts do: when it is taken, refused and done.
-- By its list of conditions; the tables stand in front of their buffers once they are written.
use mathlib.Core.Bool.{false}
use mathlib.Core.List.{List, [], ◌∷◌}
use mathlib.Core.Path.{◌≡◌, refl, sym, ◌∙◌, ap}
use Prim.Native.Nat.{ℕ, ◌+◌, ◌≤◌, ◌<◌}
use native.Mathlib.Omega.{arith}
use borrow.Author.Tests.{ltb-false, leb-false, le-leb, lt-leb}
use lib.ListN.{length}
use Rattle.answers.proofs.Answered.{refused_only}
use Rattle.answers.proofs.Fronts.{in_front_take}
use Rattle.answers.proofs.Refusals.{done_none, no_hold, first_refused, first_passed}
use Rattle.answers.specs.Answers.{if_done}
use Rattle.answers.specs.Refusals.{Refusal, longest_text, refuse, first_of, pattern_refusal, text_refusal}
use Rattle.tables.proofs.Rooms.{tables_fit, tables_kept, tables_done}
use Rattle.tables.specs.Buffers.{Tables, lengths, TablesFit, table_refusal, measured_status, TablesWritten}
use Rattle.tables.specs.declared.TableLengths.{TableLengths}
use Rattle.tables.specs.Tables.{period, stored_order, stored_Δ2, stored_Δ1, stored_Δ3}
use Rattle.steps.proofs.Text.{span_reaches}
use Rattle.steps.specs.Text.{span}
use Rattle.alignment.specs.Ready.{Taken}
use Rattle.explain_answers.specs.Answer.{explained, refused}
use Rattle.explain_answers.specs.declared.Explanation.{Explanation}
use Rattle.explain_walk.specs.Reach.{ReachReady}
use Rattle.explain_meaning.specs.Explanation.{explanation_in}
use Rattle.explain.specs.Explain.{position_refusal, explain_status, explain_status_of, explain_answer, ExplainOutcomeOf}

-- 4, 6 and 7 are tested first, as they are measured among 4 to 7, and 10 after them
module _ (m n b : ℕ) (l : TableLengths) {s : ℕ} (measured : s ≡ measured_status m 0 n l false) where
  abbrev first : List Refusal
  first = pattern_refusal m ∷ text_refusal n ∷ table_refusal m l ∷ []

  tested : s ≡ first_of first
  unfolding measured_status first_of
  tested = measured ∙ sym (no_hold m n (table_refusal m l ∷ refuse 7 false ∷ []))

  pub status_refused : (s ≡ 0 → ⊥) → s ≡ explain_status m n b l
  unfolding explain_status
  status_refused h = first_refused first (position_refusal n b ∷ []) tested h

  status_past : s ≡ 0 → explain_status m n b l ≡ first_of (position_refusal n b ∷ [])
  unfolding explain_status
  status_past e = first_passed first (position_refusal n b ∷ []) (omega arith) tested e

  pub status_ten : s ≡ 0 → n ≤ b → 10 ≡ explain_status m n b l
  unfolding first_of
  status_ten e past = sym (status_past e ∙ rw (le-leb n b past))

  pub status_done : s ≡ 0 → b < n → 0 ≡ explain_status m n b l
  unfolding first_of
  status_done e inside = sym (status_past e ∙ rw (lt-leb n b inside))

-- l' are the buffers' lengths
pub status_is : (m n b : ℕ) {s : ℕ} {l l' : TableLengths} → s ≡ explain_status m n b l → l ≡ l' → s ≡ explain_status m n b l'
status_is m n b measured e = rw e at measured

-- a call is taken
pub record ExplainFit (w t : List ℕ) (b : ℕ) (lent : Tables) : Type 0 where
  pub tables : TablesFit w lent
  pub text : length t ≤ longest_text
  pub inside : b + length w ≤ span w t

pub explain_fit : {w t : List ℕ} {b : ℕ} {lent : Tables} → explain_status_of b w t lent ≡ 0 → ExplainFit w t b lent
unfolding explain_status
explain_fit {w} {t} {b} {lent} status =
    let tables = table_refusal (length w) (lengths lent) in
    let position = position_refusal (length t) b in
    let (pattern, later) = done_none (pattern_refusal (length w) ∷ text_refusal (length t) ∷ tables ∷ position ∷ []) (omega arith) status in
    let fit = tables_fit pattern later.1.0 in
    record {
      tables = fit;
      text = ltb-false _ _ later.0;
      inside = span_reaches w t fit.taken.some b (leb-false (length t) b later.1.1.0);
    }

module _ {w t : List ℕ} {b : ℕ} {lent : Tables} where
  -- a refused call answers its status and leaves every buffer
  pub refused_outcome : (s : ℕ) → (s ≡ 0 → ⊥) → ExplainOutcomeOf s b w t lent lent (refused s)
  unfolding explain_answer
  refused_outcome s h = record { answer = refused_only s _ (refused s) h; tables = tables_kept s w h }

  module _ {left : Tables} (written : TablesWritten w lent left) where
    -- the walk can go by the tables that are written
    pub reach_ready : {p : ℕ} → ExplainFit w t b lent → p ≡ period w → ReachReady w t left.order left.delta2 left.delta1 left.delta3 p b
    reach_ready r period_is =
        let taken : Taken w t = record { some = r.tables.taken.some; few = r.tables.taken.few; text = r.text } in
        record {
          rows = record {
            taken = taken;
            order_ready = rw written.order (in_front_take (stored_order w) lent.order _ refl);
            period_is = period_is;
          };
          shifts = record {
            taken = taken;
            delta2_ready = rw written.delta2 (in_front_take (stored_Δ2 w) lent.delta2 _ refl);
            delta1_ready = rw written.delta1 (in_front_take (stored_Δ1 w) lent.delta1 _ refl);
            delta3_ready = rw written.delta3 (in_front_take (stored_Δ3 w) lent.delta3 _ refl);
            period_is = period_is;
          };
          inside = r.inside;
        }

    -- a call that is done
    pub done : {e : Explanation} → e ≡ explanation_in b w t → ExplainOutcomeOf 0 b w t lent left (explained e)
    unfolding if_done explain_answer
    done e = record { answer = ap explained e; tables = tables_done written }
