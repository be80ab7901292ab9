-- `run_wrapping::run_wrapping` meets its contract. The loop over the alignments keeps `Moved`, that
-- over the comparisons `Along`, and that the alignment is shown once one has been made. The
-- measures are what is left of the text and of the row. Assumes nothing.
use Rattle.std.proofs.Common.{◌≡◌, ◌<◌, ◌≤◌, ℕ, Bool, List, length, get_or, sym, ◌∙◌, arith}
use Rattle.tables.proofs.LaterShift.{Δ2_end}
use Rattle.tables.proofs.Stored.{stored_Δ2_length, stored_Δ2_entry}
use Rattle.tables.specs.Tables.{period, stored_Δ2}
use Rattle.steps.proofs.Rows.{row_some, row_below}
use Rattle.steps.proofs.Text.{span_reaches}
use Rattle.steps.specs.Steps.{row}
use Rattle.alignment.proofs.Along.{along_more, along_stop, along_all}
use Rattle.alignment.proofs.Entries.{EntryAt}
use Rattle.alignment.proofs.Stored.{begins_room, begins_entry}
use Rattle.alignment.specs.Laid.{ComparedSo}
use Rattle.alignment.specs.Ready.{Begins, Taken}
use Rattle.run_state.proofs.Moved.{moved_none, moved_then}
use Rattle.run_wrapping.proofs.run_wrapping.Goals as goal
use Rattle.run_wrapping.proofs.run_wrapping.Goals.{Joined-i-count, then-i-count, else-i-count+else-text-b+then-pattern-at}

-- the period is Δ2's entry for an occurrence
period_read : (w delta2 : List ℕ) → 1 ≤ length w → Begins (stored_Δ2 w) delta2 → EntryAt delta2 (length w) (period w)
period_read w delta2 some ready =
    let whole = stored_Δ2_length w in
    record {
      inside = omega (arith, begins_room (stored_Δ2 w) delta2 ready);
      value_there =
          begins_entry (stored_Δ2 w) delta2 ready (length w) 0 (omega arith)
          ∙ stored_Δ2_entry w (length w) some (omega arith)
          ∙ Δ2_end w some;
    }

-- an entry of the row is in the pattern
in_pattern : (w : List ℕ) (repeat : Bool) {i at : ℕ} → 1 ≤ length w → i < length (row w repeat) → at ≡ get_or (row w repeat) i 0 → at < length w
in_pattern w repeat {i} some l e = omega (arith, row_below w repeat some i l)

-- where the comparisons have ended
module _ (c : Joined-i-count) where
  abbrev taken : Taken c.args.job.now.pattern.now c.args.job.now.text.now
  taken = c.requires.ready.shifts.tables.taken

  -- the alignment is shown: the row is not empty, so that one was made
  is_shown : c.alignments.run.laid.position < length c.args.job.now.text.now
  is_shown =
      elim c.if-i-count.branch [
        | then-i-count x ↦
            c.loop-i.invariant.shown
            (omega (arith, x.if-i-count.true, c.row_length-count.ensures, row_some c.args.job.now.pattern.now c.alignments.run.laid.repeat taken.some))
        | else-i-count+else-text-b+then-pattern-at x ↦ omega (arith, x.if-text-b.false, taken.some)
      ]

  -- and so many of them agree
  ended : ComparedSo c.args.job.now.pattern.now c.args.job.now.text.now c.alignments.run.laid c.if-i-count.agreed
  ended =
      let known = c.loop-i.invariant.along in
      record {
        inside = span_reaches c.args.job.now.pattern.now c.args.job.now.text.now taken.some _ is_shown;
        count =
            elim c.if-i-count.branch [
              | then-i-count x ↦ x.agreed-is ∙ along_all _ _ _ _ known (x.if-i-count.true ∙ c.row_length-count.ensures)
              | else-i-count+else-text-b+then-pattern-at x ↦
                  let in_row : c.loop-i.i < length (row c.args.job.now.pattern.now c.alignments.run.laid.repeat) =
                  omega (arith, x.if-i-count.false, known.within, c.row_length-count.ensures) in
                  x.agreed-is
                  ∙ along_stop _ _ _ _ known in_row x.row_entry-at.ensures (λ same. x.if-pattern-at.true (same ∙ sym x.byte_at.ensures))
            ];
      }

pub bounds-delta2-pattern : goal.bounds-delta2-pattern
bounds-delta2-pattern c =
    let tables = c.requires.ready.shifts.tables in
    (period_read _ _ tables.taken.some tables.delta2_ready).inside

pub alignments-init : goal.alignments-init
alignments-init c = moved_none c.requires.ready.shifts.tables.taken c.args.begin c.args.found.now c.requires.standing

pub row_length-count-requires-clause-period : goal.row_length-count-requires-clause-period
row_length-count-requires-clause-period c =
    let tables = c.requires.ready.shifts.tables in
    c.from-p.ensures ∙ (period_read _ _ tables.taken.some tables.delta2_ready).value_there

pub bounds-pattern-at : goal.bounds-pattern-at
bounds-pattern-at c =
    in_pattern c.args.job.now.pattern.now c.alignments.run.laid.repeat c.requires.ready.shifts.tables.taken.some
    (omega (arith, c.loop-i.invariant.along.within, c.row_length-count.ensures))
    c.row_entry-at.ensures

pub overflow_add-b : goal.overflow_add-b
overflow_add-b c =
    let taken = c.requires.ready.shifts.tables.taken in
    omega (
      arith,
      in_pattern c.args.job.now.pattern.now c.alignments.run.laid.repeat taken.some
          (omega (arith, c.loop-i.invariant.along.within, c.row_length-count.ensures))
          c.row_entry-at.ensures,
      taken.text,
      taken.few,
    )

pub loop-i-preserved : goal.loop-i-preserved
loop-i-preserved c = record {
  along =
      along_more _ _ _ _ c.loop-i.invariant.along
      (omega (arith, c.loop-i.invariant.along.within, c.row_length-count.ensures))
      c.row_entry-at.ensures
      (c.if-pattern-at.false ∙ c.byte_at.ensures);
  shown = λ some. omega (arith, c.requires.ready.shifts.tables.taken.some);
}

pub move_around-run-requires-clause-ready : goal.move_around-run-requires-clause-ready
move_around-run-requires-clause-ready c =
    let tables = c.requires.ready.shifts.tables in
    let period_is =
    c.from-p.ensures ∙ (period_read _ _ tables.taken.some tables.delta2_ready).value_there in
    rw period_is tables

pub move_around-run-requires-clause-compared : goal.move_around-run-requires-clause-compared
move_around-run-requires-clause-compared c = ended (goal.at.move_around-run-requires-clause-compared c).Joined-i-count

pub alignments-smaller : goal.alignments-smaller
alignments-smaller c =
    omega (arith, c.move_around-run.ensures.forward, is_shown (goal.at.alignments-smaller c).Joined-i-count)

pub alignments-preserved : goal.alignments-preserved
alignments-preserved c =
    let shifts = c.requires.ready.shifts in
    moved_then shifts.tables.taken shifts.room c.alignments.invariant c.move_around-run.ensures.moved
