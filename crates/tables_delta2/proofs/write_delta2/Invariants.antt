use Rattle.std.proofs.Common.{◌≤◌, length}
use Rattle.answers.proofs.Partly.{PartlyWritten}
use Rattle.tables_delta2.proofs.Values.{values, LinkedAt}
use Rattle.tables_delta2.proofs.write_delta2.Given as goal

-- of Δ2 after its first entry, the values from i on are left to be written; and in the second
-- group the shifts are linked that keep what the entries before i show
abbrev pub invariant-loop-i : goal.invariant-loop-i
invariant-loop-i l = record {
  positive : 1 ≤ l.i;
  inside : l.i ≤ length l.pattern;
  linked : LinkedAt l.pattern l.i l.next;
  written : PartlyWritten 1 l.initial.delta2 l.delta2 (values l.pattern 1) (values l.pattern l.i) l.i;
}
