-- What preparing answers and leaves, put together from what its parts do: refused, and done.
-- Where its status is 0, the pattern is taken and its tables fit.
use mathlib.Core.List.{List, [], ◌∷◌}
use mathlib.Core.Bool.{false}
use mathlib.Core.Path.{◌≡◌, sym, ◌∙◌, ap}
use Prim.Native.Nat.{ℕ}
use native.Mathlib.Omega.{arith}
use lib.ListN.{length}
use Rattle.answers.proofs.Answered.{refused_answer}
use Rattle.answers.proofs.Refusals.{done_none, no_text}
use Rattle.answers.specs.Answers.{status_only, prepared, if_done, answered}
use Rattle.answers.specs.Refusals.{first_of, refuse, pattern_refusal}
use Rattle.tables.proofs.Rooms.{tables_fit, tables_kept, tables_done}
use Rattle.tables.specs.Buffers.{Tables, lengths, TablesFit, table_refusal, measured_status, TablesWritten}
use Rattle.tables.specs.declared.TableLengths.{TableLengths}
use Rattle.tables.specs.Tables.{period}
use Rattle.tables.specs.Prepare.{prepare_status, prepare_done, PrepareOutcomeOf}

-- 4 is measured among 4, 5 and 6, of which the others never hold; l' are the buffers' lengths
pub status_is : (m : ℕ) {s : ℕ} {l l' : TableLengths} → s ≡ measured_status m 0 0 l false → l ≡ l' → s ≡ prepare_status m l'
unfolding first_of measured_status prepare_status
status_is m {l' = l'} measured e = rw e at measured ∙ sym (no_text m (table_refusal m l' ∷ refuse 7 false ∷ []))

-- the status is 0
pub prepare_fit : {w : List ℕ} {lent : Tables} → prepare_status (length w) (lengths lent) ≡ 0 → TablesFit w lent
unfolding prepare_status
prepare_fit {w} {lent} e =
    let (pattern, room) = done_none (pattern_refusal (length w) ∷ table_refusal (length w) (lengths lent) ∷ []) (omega arith) e in
    tables_fit pattern room.0

module _ {w : List ℕ} {lent : Tables} where
  pub refused : (s : ℕ) → (s ≡ 0 → ⊥) → PrepareOutcomeOf s w lent lent (status_only s)
  refused s h = record { answer = refused_answer s (prepare_done w) h; tables = tables_kept s w h }

  pub done : {left : Tables} {p : ℕ} → (p ≡ period w) × TablesWritten w lent left → PrepareOutcomeOf 0 w lent left (prepared p)
  unfolding answered if_done
  done (period_is, written) = record { answer = ap prepared period_is; tables = tables_done written }
