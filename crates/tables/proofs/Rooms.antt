-- The tables' buffers: they are long enough just where 7 does not hold of them; what is left in them by a refused call, and by one that is done, and
-- where the period stands then. Each condition's test, turned into its bound and back; table by table.
use mathlib.Core.Bool.{false}
use mathlib.Core.List.{List}
use mathlib.Core.Path.{◌≡◌, ◌∙◌}
use Prim.Native.Nat.{ℕ, ◌≤◌}
use native.Mathlib.Omega.{arith}
use borrow.Author.Tests.{ltb-false, le-ltb}
use lib.Dec.{ltb}
use lib.ListN.{length, get_or}
use Rattle.answers.proofs.Answered.{refused_only}
use Rattle.answers.proofs.Fronts.{in_front_entry}
use Rattle.answers.proofs.Refusals.{neither, pattern_within}
use Rattle.answers.specs.Answers.{if_done}
use Rattle.answers.specs.Refusals.{pattern_refusal}
use Rattle.tables.proofs.LaterShift.{Δ2_end}
use Rattle.tables.proofs.Stored.{stored_Δ2_length, stored_Δ2_entry}
use Rattle.tables.specs.Buffers.{Tables, lengths, needed, short_of, tables_short, with_tables, tables_left}
use Rattle.tables.specs.Buffers.{PatternTaken, TablesFit, TablesWritten}
use Rattle.tables.specs.Tables.{period, stored_Δ2}
use Rattle.tables.specs.declared.TableLengths.{TableLengths}

-- none of the buffers is too short
pub record Roomy (need l : TableLengths) : Type 0 where
  pub order : need.order ≤ l.order
  pub delta2 : need.delta2 ≤ l.delta2
  pub delta1 : need.delta1 ≤ l.delta1
  pub delta3 : need.delta3 ≤ l.delta3

pub roomy : (need l : TableLengths) → short_of need l ≡ false → Roomy need l
roomy need l e =
    let (first_three, delta3) = neither _ (ltb l.delta3 need.delta3) e in
    let (first_two, delta1) = neither _ (ltb l.delta1 need.delta1) first_three in
    let (order, delta2) = neither (ltb l.order need.order) (ltb l.delta2 need.delta2) first_two in
    record {
      order = ltb-false _ _ order;
      delta2 = ltb-false _ _ delta2;
      delta1 = ltb-false _ _ delta1;
      delta3 = ltb-false _ _ delta3;
    }

module _ {w : List ℕ} {lent : Tables} where
  pub tables_fit : (pattern_refusal (length w)).holds ≡ false → tables_short (length w) (lengths lent) ≡ false → TablesFit w lent
  tables_fit pattern room =
      let m = length w in
      let (some, few) = pattern_within m pattern in
      let rooms = roomy (needed m) (lengths lent) room in
      record {
        taken = record { some = some; few = few };
        order_room = rooms.order;
        delta2_room = rooms.delta2;
        delta1_room = rooms.delta1;
        delta3_room = rooms.delta3;
      }

  pub not_short : TablesFit w lent → tables_short (length w) (lengths lent) ≡ false
  not_short fit =
      rw (le-ltb _ _ fit.order_room, le-ltb _ _ fit.delta2_room, le-ltb _ _ fit.delta1_room) (le-ltb _ _ fit.delta3_room)

  -- once the tables are written
  pub tables_done : {left : Tables} → TablesWritten w lent left → left ≡ tables_left 0 w lent
  unfolding tables_left if_done
  tables_done r = λ i. record { order = r.order i; delta2 = r.delta2 i; delta1 = r.delta1 i; delta3 = r.delta3 i }

  -- Δ2's entry for an occurrence is the period
  pub period_written : PatternTaken w → {left : Tables} → TablesWritten w lent left → get_or left.delta2 (length w) 0 ≡ period w
  period_written taken r =
      let m = length w in
      rw r.delta2 (in_front_entry (stored_Δ2 w) lent.delta2 m 0 (omega (arith, stored_Δ2_length w)))
      ∙ stored_Δ2_entry w m taken.some (omega arith)
      ∙ Δ2_end w taken.some

-- a refused call leaves them
pub tables_kept : (s : ℕ) (w : List ℕ) {lent : Tables} → (s ≡ 0 → ⊥) → lent ≡ tables_left s w lent
unfolding tables_left
tables_kept s w {lent} h = refused_only s (with_tables w lent) lent h
