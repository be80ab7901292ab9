-- `tables_delta2::link_shifts` meets its contract. The invariant: the entries from k on are linked,
-- and `after` is the linked shift after k. Assumes nothing.
use mathlib.Core.Logic.{inl, inr}
use Rattle.std.proofs.Common.{◌≡◌, ◌-◌, get_or, arith}
use Rattle.tables_delta2.proofs.Linking.{After, before, store}
use Rattle.tables_delta2.proofs.link_shifts.Goals as goal
use Rattle.tables_delta2.proofs.link_shifts.Goals.{then-r_min-k, else-r_min-k}
use Rattle.tables.specs.Tables.{r_min}

pub loop-k-preserved : goal.loop-k-preserved
loop-k-preserved c =
    let w = c.args.pattern.now in
    let k = c.loop-k.k in
    let begun = c.loop-k.invariant in
    -- the entry that a turn reads
    let read : get_or c.args.r_min.now (k - 1) 0 ≡ r_min w (k - 1) = c.requires.r_min.entry (k - 1) (omega arith) in
    -- after the branch `after` is the linked shift after k - 1
    let turn : After w (k - 1) c.if-r_min-k.after =
    elim c.if-r_min-k.branch [
      | then-r_min-k t ↦ before begun (omega arith) _ (inl (rw read at t.if-r_min-k.true, t.after-is))
      | else-r_min-k t ↦ before begun (omega arith) _ (inr (rw read at t.if-r_min-k.false, t.after-is))
    ] in
    store begun (omega arith) c.requires.taken.few _ turn
