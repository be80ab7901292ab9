-- What searching answers and leaves, put together from what its parts do: what it is that a search
-- is taken, refused, and done. A search is taken where none of its conditions holds; the tables
-- stand in front of their buffers once they are written.
use mathlib.Core.List.{List, [], ◌∷◌}
use mathlib.Core.Path.{◌≡◌, refl, sym, ◌∙◌}
use Prim.Native.Nat.{ℕ, ◌+◌, ◌≤◌, ◌<◌}
use native.Mathlib.Omega.{arith}
use borrow.Author.Tests.{ltb-false}
use lib.Dec.{ltb}
use lib.ListN.{length}
use Rattle.answers.proofs.Answered.{refused_only, refused_answer}
use Rattle.answers.proofs.Fronts.{in_front_take}
use Rattle.answers.proofs.Refusals.{done_none, no_hold}
use Rattle.answers.specs.Answers.{status_only, searched, if_done, answered}
use Rattle.answers.specs.Refusals.{pattern_refusal, text_refusal, buffer_refusal}
use Rattle.tables.proofs.Periods.{period_facts}
use Rattle.tables.proofs.Rooms.{tables_fit, tables_kept, tables_done}
use Rattle.tables.specs.Buffers.{Tables, lengths, TablesFit, table_refusal, measured_status, TablesWritten}
use Rattle.tables.specs.declared.TableLengths.{TableLengths}
use Rattle.tables.specs.Tables.{period, stored_order, stored_Δ2, stored_Δ1, stored_Δ3}
use Rattle.steps.proofs.Occurrences.{occurrences_few}
use Rattle.steps.proofs.Text.{span_covers, span_few}
use Rattle.steps.specs.Bound.{bound}
use Rattle.steps.specs.Text.{span}
use Rattle.run_state.specs.Ready.{RunReady}
use Rattle.run_steps.specs.Run.{RunOutcome}
use Rattle.run_steps.specs.declared.Counts.{Counts}
use Rattle.search.specs.Search.{search_status, search_status_of, search_done, found_left, SearchFit, SearchOutcomeOf}

-- 4 and 6 are measured among 4, 5 and 6, of which 5 never holds
pub status_is :
    (m n found : ℕ) {s : ℕ} {l l' : TableLengths} → s ≡ measured_status m 0 n l (ltb found n) → l ≡ l' → s ≡ search_status m n l' found
unfolding measured_status search_status
status_is m n found {l' = l'} measured e =
    rw e at measured ∙ sym (no_hold m n (table_refusal m l' ∷ buffer_refusal found n ∷ []))

-- a search that is taken fits
pub search_fit : {w t : List ℕ} {lent : Tables} {found : List ℕ} → search_status_of w t lent found ≡ 0 → SearchFit w t lent found
unfolding search_status
search_fit {w} {t} {lent} {found} status =
    let tables = table_refusal (length w) (lengths lent) in
    let room = buffer_refusal (length found) (length t) in
    let (pattern, later) = done_none (pattern_refusal (length w) ∷ text_refusal (length t) ∷ tables ∷ room ∷ []) (omega arith) status in
    let fit : TablesFit w lent = tables_fit pattern later.1.0 in
    record {
      tables = fit;
      text = ltb-false _ _ later.0;
      room = omega (arith, ltb-false (length found) (length t) later.1.1.0, occurrences_few w t fit.taken.some);
    }

module _ {w t : List ℕ} {lent : Tables} {found : List ℕ} where
  -- a refused call answers its status and leaves every buffer
  pub refused : (s : ℕ) → (s ≡ 0 → ⊥) → SearchOutcomeOf s w t lent lent found found (status_only s)
  unfolding found_left
  refused s h =
      record { answer = refused_answer s (search_done w t) h; tables = tables_kept s w h; occurrences_left = refused_only s _ found h }

  -- the bound can be worked out
  pub bound_ready :
      {found' : List ℕ} {counts : Counts} {p : ℕ} → SearchFit w t lent found → p ≡ period w → RunOutcome w t found found' counts →
      (length w ≤ 128) × ((span w t ≤ 65535) × ((counts.occurrences ≤ span w t) × (p ≤ length w)))
  bound_ready fit period_is ran =
      let some = fit.tables.taken.some in
      let (far, near) : (length t ≤ span w t) × (span w t < length t + length w) = (span_covers w t some, span_few w t some) in
      omega (arith, fit, period_is, ran.occurrences_counted, occurrences_few w t some, (period_facts w some).within)

  module _ {left : Tables} (written : TablesWritten w lent left) where
    -- the steps can be run by the tables that are written
    pub run_ready : SearchFit w t lent found → RunReady w t left.order left.delta2 left.delta1 left.delta3 found
    run_ready r =
        record {
          order_ready = rw written.order (in_front_take (stored_order w) lent.order _ refl);
          shifts = record {
            tables = record {
              taken = record { some = r.tables.taken.some; few = r.tables.taken.few; text = r.text };
              delta2_ready = rw written.delta2 (in_front_take (stored_Δ2 w) lent.delta2 _ refl);
              delta1_ready = rw written.delta1 (in_front_take (stored_Δ1 w) lent.delta1 _ refl);
              delta3_ready = rw written.delta3 (in_front_take (stored_Δ3 w) lent.delta3 _ refl);
              period_is = refl;
            };
            room = r.room;
          };
        }

    -- a call that is done
    pub done :
        {found' : List ℕ} {counts : Counts} {p far most : ℕ} → p ≡ period w → RunOutcome w t found found' counts →
        far ≡ span w t → most ≡ bound (length w) far counts.occurrences p →
        SearchOutcomeOf 0 w t lent left found found' (searched counts.occurrences counts.comparisons p most)
    unfolding if_done answered found_left
    done period_is ran far_is bound_is =
        record {
          answer = rw (bound_is, far_is, period_is, ran.occurrences_counted, ran.comparisons_counted);
          tables = tables_done written;
          occurrences_left = ran.occurrences_left;
        }
